-- What a change of an image leaves untouched.
use Rattle.std.specs.Prelude.{◌≡◌, ◌≢◌, ℕ, ◌+◌, ◌-◌, ◌*◌, ◌<◌, ◌≤◌, ⊤, List, [], ◌∷◌, length, slice_index, Any}
use Rattle.adf_block.specs.Image.{block_count, page_count, byte_at, bytes_at, long}
use Rattle.adf_block.specs.Fields.{pointer_count, held_count, secondary_type}
use Rattle.adf_block.specs.declared.layout.TheConstants.{BOOT_BLOCKS, BLOCK_BYTES, PRIMARY_TYPE, OWN_KEY}
use Rattle.adf_block.specs.declared.layout.TheConstants.{SECONDARY_TYPE, DIRECTORY_TYPE, FILE_TYPE, TABLE_LONGS}
use Rattle.adf_block.specs.declared.layout.TheConstants.{TABLE_SIZE, FIRST_SLOT, POINTER_COUNT, FIRST_POINTER}
use Rattle.adf_block.specs.declared.layout.TheConstants.{BITMAP_FLAG, FIRST_PAGE, DISK_DATE, CREATION_DATE}
use Rattle.adf_block.specs.declared.layout.TheConstants.{PROTECTION, FILE_SIZE, COMMENT_BYTE, DATE, NAME_BYTE}
use Rattle.adf_block.specs.declared.layout.TheConstants.{NEXT_IN_CHAIN, PARENT, NEXT_DATA, OFS_DATA_BYTE}
use Rattle.adf_block.specs.declared.layout.TheConstants.{FIRST_MAP_LONG, MAP_LONGS}
use Rattle.adf_block.specs.declared.beside.TheConstants.{CHECKSUM, PAGE_CHECKSUM}
use Rattle.ados_model.specs.declared.role.Role.{Role}
use Rattle.ados_model.specs.Faults.{Reached, IsFile, IsOfs, pointers_of}
use Rattle.ados_model.specs.declared.role.Role.TheVariants.{Root, Page, Entry, Data, Extension}

-- byte i of a block is in one of these runs of longs; a run is its first and last long
abbrev pub InLongs : List (ℕ × ℕ) → ℕ → Type 0
InLongs runs i = Any (λ run. (4 * run.0 ≤ i) × (i < 4 * (run.1 + 1))) runs

-- byte i of a block is in the text whose length is byte `start`
abbrev pub InText : List ℕ → ℕ → ℕ → ℕ → Type 0
InText image block start i = (start ≤ i) × (i ≤ start + byte_at image block start)

-- a run of one long
abbrev pub one_long : ℕ → ℕ × ℕ
one_long i = (i, i)

-- the three longs of a date, from long i
abbrev pub date_longs : ℕ → ℕ × ℕ
date_longs i = (i, i + 2)

-- the runs of fields in a root: the types, the table size, then checksum, hash table and bitmap flag in one run, the
-- pointers to bitmap blocks, the dates, and the parent
abbrev pub root_runs : ℕ → List (ℕ × ℕ)
root_runs pages =
    one_long PRIMARY_TYPE ∷ one_long TABLE_SIZE ∷ (CHECKSUM, BITMAP_FLAG) ∷ (FIRST_PAGE, BITMAP_FLAG + pages)
    ∷ date_longs DATE ∷ (DISK_DATE, CREATION_DATE + 2) ∷ one_long PARENT ∷ one_long SECONDARY_TYPE ∷ []

-- the runs of fields in a directory, its hash table included
abbrev pub directory_runs : List (ℕ × ℕ)
directory_runs =
    (PRIMARY_TYPE, OWN_KEY) ∷ (CHECKSUM, FIRST_SLOT + (TABLE_LONGS - 1)) ∷ one_long PROTECTION
    ∷ date_longs DATE ∷ (NEXT_IN_CHAIN, PARENT) ∷ one_long SECONDARY_TYPE ∷ []

-- this many data pointers, from the last long of the table downwards
abbrev pub pointer_run : ℕ → ℕ × ℕ
pointer_run count = (FIRST_POINTER + 1 - count, FIRST_POINTER)

-- the runs of fields in a file header with this many data pointers
abbrev pub file_runs : ℕ → List (ℕ × ℕ)
file_runs count =
    (PRIMARY_TYPE, POINTER_COUNT) ∷ (NEXT_DATA, CHECKSUM) ∷ pointer_run count ∷ (PROTECTION, FILE_SIZE)
    ∷ date_longs DATE ∷ (NEXT_IN_CHAIN, SECONDARY_TYPE) ∷ []

-- the runs of fields in an extension block with this many data pointers
abbrev pub extension_runs : ℕ → List (ℕ × ℕ)
extension_runs count =
    (PRIMARY_TYPE, POINTER_COUNT) ∷ one_long CHECKSUM ∷ pointer_run count ∷ (PARENT, SECONDARY_TYPE) ∷ []

-- byte i of a block in a role is in a field
pub data IsField (image : List ℕ) (block : ℕ) : Role → ℕ → Type 0 where
  root_longs : {i : ℕ} → InLongs (root_runs (page_count (block_count image))) i → IsField image block Root i
  root_name : {i : ℕ} → InText image block NAME_BYTE i → IsField image block Root i
  page_longs : {i : ℕ} → InLongs ((PAGE_CHECKSUM, FIRST_MAP_LONG + (MAP_LONGS - 1)) ∷ []) i → IsField image block Page i
  directory_longs : {dir s i : ℕ} → secondary_type image block ≡ DIRECTORY_TYPE → InLongs directory_runs i
      → IsField image block (Entry dir s) i
  file_longs : {dir s i : ℕ} → secondary_type image block ≡ FILE_TYPE
      → InLongs (file_runs (pointer_count image block)) i → IsField image block (Entry dir s) i
  entry_name : {dir s i : ℕ} → InText image block NAME_BYTE i → IsField image block (Entry dir s) i
  entry_comment : {dir s i : ℕ} → InText image block COMMENT_BYTE i → IsField image block (Entry dir s) i
  extension_longs : {file i : ℕ} → InLongs (extension_runs (pointer_count image block)) i
      → IsField image block (Extension file) i
  ofs_data_longs : {file i : ℕ} → IsOfs image → InLongs ((PRIMARY_TYPE, CHECKSUM) ∷ []) i
      → IsField image block (Data file) i
  ofs_data : {file i : ℕ} → IsOfs image → OFS_DATA_BYTE ≤ i → i < OFS_DATA_BYTE + held_count image block
      → IsField image block (Data file) i
  ffs_data : {file i : ℕ} → ¬ IsOfs image → IsField image block (Data file) i

-- the same kind of role, in any directory, slot or file
abbrev pub Alike : Role → Role → Type 0
Alike Root Root = ⊤
Alike Page Page = ⊤
Alike (Entry dir s) (Entry dir' s') = ⊤
Alike (Data file) (Data file') = ⊤
Alike (Extension file) (Extension file') = ⊤
Alike _ _ = ⊥

-- a byte of a block that keeps its role is unchanged if it is in no field afterwards, whether or not it was in one
-- before
abbrev pub StaysUnnamed : List ℕ → List ℕ → ℕ → ℕ → Role → Role → Type 0
StaysUnnamed old new block i role role' =
    Reached old block role → Reached new block role' → Alike role role'
    → ¬ IsField new block role' i → byte_at new block i ≡ byte_at old block i

-- the first data block of a file, or 0
abbrev pub first_data : List ℕ → ℕ → ℕ
first_data image file = slice_index (pointers_of image file) 0

-- the header has the number of the first data block, in FFS too
abbrev pub NamesFirstData : List ℕ → ℕ → Type 0
NamesFirstData image file = long image file NEXT_DATA ≡ first_data image file

-- the header's long for the first data block is unchanged if this block is the same, and has the number of the new one
-- otherwise
pub record KeepsFirstData (old new : List ℕ) (file : ℕ) : Type 0 where
  pub same : first_data new file ≡ first_data old file → long new file NEXT_DATA ≡ long old file NEXT_DATA
  pub other : first_data new file ≢ first_data old file → NamesFirstData new file

-- unchanged: the boot blocks; each byte in no field afterwards, in a block that keeps its role; the long for a file's
-- first data block as above
pub record Kept (old new : List ℕ) : Type 0 where
  pub size : length new ≡ length old
  pub boot : bytes_at new 0 0 (BOOT_BLOCKS * BLOCK_BYTES) ≡ bytes_at old 0 0 (BOOT_BLOCKS * BLOCK_BYTES)
  pub others : (block i : ℕ) (role role' : Role) → i < BLOCK_BYTES → StaysUnnamed old new block i role role'
  pub first : (file : ℕ) → IsFile old file → IsFile new file → KeepsFirstData old new file
