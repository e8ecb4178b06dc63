-- When an image represents a tree: the use of each block, the bytes in a file's blocks, and the fields of each block.
use Rattle.std.specs.Prelude.{◌≡◌, ℕ, List, length, slice_get, Some, IsSome, IsTrue, ◌+◌, ◌-◌, ◌*◌, ◌/◌, ◌%◌, ◌<◌}
use Rattle.std.specs.Prelude.{◌≤◌, min, ◌∷◌, slice_index, ◌==◌, [], filter, Contains}
use Rattle.adf_block.specs.declared.layout.TheConstants.{BLOCK_BYTES, PRIMARY_TYPE, OWN_KEY, SECONDARY_TYPE}
use Rattle.adf_block.specs.declared.layout.TheConstants.{HEADER_TYPE, DATA_TYPE, LIST_TYPE, ROOT_TYPE, DIRECTORY_TYPE}
use Rattle.adf_block.specs.declared.layout.TheConstants.{FILE_TYPE, TABLE_LONGS, TABLE_SIZE, FIRST_SLOT}
use Rattle.adf_block.specs.declared.layout.TheConstants.{POINTER_COUNT, FIRST_POINTER, BITMAP_FLAG, BITMAP_VALID}
use Rattle.adf_block.specs.declared.layout.TheConstants.{FIRST_PAGE, DISK_DATE, CREATION_DATE, PROTECTION, FILE_SIZE}
use Rattle.adf_block.specs.declared.layout.TheConstants.{COMMENT_BYTE, DATE, NAME_BYTE, NEXT_IN_CHAIN, PARENT}
use Rattle.adf_block.specs.declared.layout.TheConstants.{NEXT_EXTENSION, SEQUENCE, HELD, NEXT_DATA, OFS_ROOM}
use Rattle.adf_block.specs.Image.{page_count, IsInside, long, byte_at, block_sum, Chained, bytes_at, has_free_bit}
use Rattle.adf_block.specs.Image.{HasText}
use Rattle.ados_name.specs.Name.{slot}
use Rattle.ados_model.specs.Tree.{Format, Ofs, Ffs, Date3, data_count, extension_count, Tree, size_of, data_size}
use Rattle.ados_model.specs.Tree.{data_start, Content, Node, Proper, root, entries, name_of, Content.Directory}
use Rattle.ados_model.specs.Tree.{Content.File}

-- the bitmap blocks, and the data blocks and extension blocks of each file, in order
pub record Layout : Type 0 where
  pub pages : List ℕ
  pub file_data : ℕ → List ℕ
  pub extensions : ℕ → List ℕ

-- the use of a block: bitmap block i, the block of a key, data or extension block i of a file, or lost
pub data Duty : Type 0 where
  Page : ℕ → Duty
  Key : Duty
  Data : ℕ → ℕ → Duty
  Extension : ℕ → ℕ → Duty
  Lost : Duty

-- the block has this use
abbrev pub HasDuty : Tree → Layout → ℕ → Duty → Type 0
HasDuty t l block (Page i) = slice_get l.pages i ≡ Some block
HasDuty t l block Key = IsSome (t.nodes block)
HasDuty t l block (Data file i) = slice_get (l.file_data file) i ≡ Some block
HasDuty t l block (Extension file i) = slice_get (l.extensions file) i ≡ Some block
HasDuty t l block Lost = IsSome (t.lost block)

-- the tree or the layout uses the block
abbrev pub Named : Tree → Layout → ℕ → Type 0
Named t l block = (duty : Duty) × HasDuty t l block duty

-- the lists are as long as the tree needs, a lost block has 512 bytes, and each block has at most one use
pub record Fits (t : Tree) (l : Layout) : Type 0 where
  pub pages : length l.pages ≡ page_count t.blocks
  pub file_data : (file : ℕ) → length (l.file_data file) ≡ data_count t.format (size_of t file)
  pub extensions : (file : ℕ) → length (l.extensions file) ≡ extension_count (length (l.file_data file))
  pub inside : (block : ℕ) (duty : Duty) → HasDuty t l block duty → IsInside t.blocks block
  pub lost : (block : ℕ) (bytes : List ℕ) → t.lost block ≡ Some bytes → length bytes ≡ BLOCK_BYTES
  pub one_duty : (block : ℕ) (duty other : Duty) → HasDuty t l block duty → HasDuty t l block other → duty ≡ other

-- the date whose first long is long i
abbrev pub date_at : List ℕ → ℕ → ℕ → Date3
date_at image block i =
    record { days = long image block i; minutes = long image block (i + 1); ticks = long image block (i + 2) }

-- the fields of an extension block of a file
pub record HasExtension (image : List ℕ) (file block : ℕ) : Type 0 where
  pub primary : long image block PRIMARY_TYPE ≡ LIST_TYPE
  pub key_field : long image block OWN_KEY ≡ block
  pub sum : block_sum image block ≡ 0
  pub parent : long image block PARENT ≡ file
  pub secondary : long image block SECONDARY_TYPE ≡ FILE_TYPE

-- the fields of OFS data block i of a file
pub record HasOfsData (image : List ℕ) (file size i block : ℕ) : Type 0 where
  pub primary : long image block PRIMARY_TYPE ≡ DATA_TYPE
  pub header : long image block OWN_KEY ≡ file
  pub sequence : long image block SEQUENCE ≡ i + 1
  pub held : long image block HELD ≡ min OFS_ROOM (size - OFS_ROOM * i)
  pub sum : block_sum image block ≡ 0

-- a file: its pointer blocks are its header and its extension blocks; all but the last are full, and so are its data
-- blocks
pub record HasFile (image : List ℕ) (format : Format) (file : ℕ) (blocks extensions bytes : List ℕ) : Type 0 where
  pub size : long image file FILE_SIZE ≡ length bytes
  pub chain : Chained image NEXT_EXTENSION (long image file NEXT_EXTENSION) extensions
  pub extension : (i : ℕ) → i < length extensions → HasExtension image file (slice_index extensions i)
  pub counts : (i : ℕ) → i ≤ length extensions
      → long image (slice_index (file ∷ extensions) i) POINTER_COUNT ≡ min TABLE_LONGS (length blocks - TABLE_LONGS * i)
  pub pointers : (i : ℕ) → i < length blocks
      → long image (slice_index (file ∷ extensions) (i / TABLE_LONGS))
      (FIRST_POINTER - i % TABLE_LONGS) ≡ slice_index blocks i
  pub contents : (k : ℕ) → k < length bytes
      → slice_index bytes k ≡ byte_at image (slice_index blocks (k / data_size format))
      (data_start format + k % data_size format)
  pub ofs_chain : format ≡ Ofs → Chained image NEXT_DATA (long image file NEXT_DATA) blocks
  pub ofs_data : format ≡ Ofs → (i : ℕ) → i < length blocks
      → HasOfsData image file (length bytes) i (slice_index blocks i)

-- the byte after `DOS` for a format
abbrev pub format_byte : Format → ℕ
format_byte Ofs = 0
format_byte Ffs = 1

-- the secondary type for the content of a node
abbrev pub type_of : Content → ℕ
type_of (Directory keys) = DIRECTORY_TYPE
type_of (File bytes) = FILE_TYPE

-- the fields that the block of each key has
pub record HasNode (image : List ℕ) (key : ℕ) (node : Node) : Type 0 where
  pub primary : long image key PRIMARY_TYPE ≡ HEADER_TYPE
  pub sum : block_sum image key ≡ 0
  pub name : HasText image key NAME_BYTE node.name
  pub date : date_at image key DATE ≡ node.date

-- the other fields of an entry of a directory
pub record HasEntry (image : List ℕ) (key : ℕ) (node : Node) (dir : ℕ) : Type 0 where
  pub key_field : long image key OWN_KEY ≡ key
  pub protection_field : long image key PROTECTION ≡ node.protection
  pub comment : HasText image key COMMENT_BYTE node.comment
  pub parent : long image key PARENT ≡ dir
  pub secondary : long image key SECONDARY_TYPE ≡ type_of node.content

-- the other fields of the root
pub record HasRoot (image : List ℕ) (t : Tree) (l : Layout) : Type 0 where
  pub table_size : long image (root t) TABLE_SIZE ≡ TABLE_LONGS
  pub valid : long image (root t) BITMAP_FLAG ≡ BITMAP_VALID
  pub pages : (i : ℕ) → i < length l.pages → long image (root t) (FIRST_PAGE + i) ≡ slice_index l.pages i
  pub disk_date : date_at image (root t) DISK_DATE ≡ t.disk_date
  pub creation_date : date_at image (root t) CREATION_DATE ≡ t.creation_date
  pub parent : long image (root t) PARENT ≡ 0
  pub secondary : long image (root t) SECONDARY_TYPE ≡ ROOT_TYPE

-- the entries of a directory in the hash chain of a slot
abbrev pub in_slot : Tree → ℕ → ℕ → List ℕ
in_slot t dir s = filter (λ key. slot (name_of t key) == s) (entries t dir)

-- the image represents the tree
pub record Stands (image : List ℕ) (t : Tree) : Type 0 where
  pub proper : Proper t
  pub layout : Layout
  pub fits : Fits t layout
  pub whole : length image ≡ BLOCK_BYTES * t.blocks
  -- the volume starts with `DOS` and the byte of its format; then the fields of each block in use, by its use
  pub boot : bytes_at image 0 0 4 ≡ 68 ∷ 79 ∷ 83 ∷ format_byte t.format ∷ []
  pub root_fields : HasRoot image t layout
  pub nodes : (key : ℕ) (node : Node) → t.nodes key ≡ Some node → HasNode image key node
  pub entries : (key dir : ℕ) (node : Node) → t.nodes key ≡ Some node → node.parent ≡ Some dir
      → HasEntry image key node dir
  pub pages : (page : ℕ) → Contains layout.pages page → block_sum image page ≡ 0
  pub lost : (block : ℕ) (bytes : List ℕ) → t.lost block ≡ Some bytes → bytes_at image block 0 BLOCK_BYTES ≡ bytes
  -- the hash chain of each slot of a directory has exactly the directory's entries of that slot
  pub chains : (dir : ℕ) (node : Node) (keys : List ℕ) (s : ℕ) → t.nodes dir ≡ Some node → node.content ≡ Directory keys
      → s < TABLE_LONGS
      → Chained image NEXT_IN_CHAIN (long image dir (FIRST_SLOT + s)) (in_slot t dir s)
  -- the pointers of each file are its data blocks, and these hold its bytes
  pub files : (file : ℕ) (node : Node) (bytes : List ℕ) → t.nodes file ≡ Some node → node.content ≡ File bytes
      → HasFile image t.format file (layout.file_data file) (layout.extensions file) bytes
  -- a block is marked free exactly if the tree and the layout do not use it
  pub marked_free : (block : ℕ) → IsInside t.blocks block → IsTrue (has_free_bit image block) → ¬ Named t layout block
  pub marked_used : (block : ℕ) → IsInside t.blocks block → ¬ IsTrue (has_free_bit image block) → Named t layout block
