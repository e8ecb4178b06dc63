-- The value of each field of a block, under a name of its own.
use Rattle.std.specs.Prelude.{ℕ, ◌+◌, ◌-◌, List, ◌==◌, if◌then◌else◌}
use Rattle.adf_block.specs.Image.{byte_at, long}
use Rattle.adf_block.specs.declared.layout.TheConstants.{PRIMARY_TYPE, OWN_KEY, SECONDARY_TYPE, FIRST_SLOT}
use Rattle.adf_block.specs.declared.layout.TheConstants.{POINTER_COUNT, FIRST_POINTER, PROTECTION, FILE_SIZE, PARENT}
use Rattle.adf_block.specs.declared.layout.TheConstants.{SEQUENCE, HELD}
use Rattle.adf_block.specs.declared.beside.TheConstants.{KIND_BYTE}
use Rattle.adf_block.specs.declared.layout.Format.{Format}
use Rattle.adf_block.specs.declared.layout.Format.TheVariants.{Ofs, Ffs}

-- the layout by the byte after `DOS`: OFS if it is 0, else FFS
abbrev pub format_of : List ℕ → Format
format_of image = if byte_at image 0 KIND_BYTE == 0 then Ofs else Ffs

-- the primary type: 2 in a root, directory or file header, 8 in an OFS data block, 16 in an extension block
abbrev pub primary_type : List ℕ → ℕ → ℕ
primary_type image block = long image block PRIMARY_TYPE

-- the block's own number; in an OFS data block, the number of the file header
abbrev pub own_key : List ℕ → ℕ → ℕ
own_key image block = long image block OWN_KEY

-- the number of data pointers in a file header or extension block
abbrev pub pointer_count : List ℕ → ℕ → ℕ
pointer_count image block = long image block POINTER_COUNT

-- the number of an OFS data block in its file, from 1
abbrev pub sequence_number : List ℕ → ℕ → ℕ
sequence_number image block = long image block SEQUENCE

-- the number of data bytes in an OFS data block
abbrev pub held_count : List ℕ → ℕ → ℕ
held_count image block = long image block HELD

-- the entry of a directory's hash table at a slot
abbrev pub table_entry : List ℕ → ℕ → ℕ → ℕ
table_entry image block slot = long image block (FIRST_SLOT + slot)

-- data pointer i, counted from the last long of the table downwards
abbrev pub pointer : List ℕ → ℕ → ℕ → ℕ
pointer image block i = long image block (FIRST_POINTER - i)

-- the protection bits
abbrev pub protection : List ℕ → ℕ → ℕ
protection image block = long image block PROTECTION

-- the size of a file, in bytes
abbrev pub file_size : List ℕ → ℕ → ℕ
file_size image block = long image block FILE_SIZE

-- the directory of an entry; in an extension block, the file header
abbrev pub parent_key : List ℕ → ℕ → ℕ
parent_key image block = long image block PARENT

-- the secondary type: 1 in a root, 2 in a directory, -3 in a file header or extension block
abbrev pub secondary_type : List ℕ → ℕ → ℕ
secondary_type image block = long image block SECONDARY_TYPE
