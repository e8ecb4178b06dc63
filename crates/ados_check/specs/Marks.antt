-- What a check finds: the reached blocks with their roles, and that each is sound.
use Rattle.std.specs.Prelude.{◌≡◌, ℕ, ◌≤◌, ◌⊎◌, List, length, Option, Some, slice_get, option_and_then}
use Rattle.adf_block.specs.Image.{block_count, byte_at, bytes_at, long, block_sum, HasText}
use Rattle.adf_block.specs.Fields.{primary_type, own_key, parent_key, secondary_type, format_of}
use Rattle.adf_block.specs.declared.layout.TheConstants.{HEADER_TYPE, DATA_TYPE, ROOT_TYPE, FILE_TYPE, TABLE_LONGS, TABLE_SIZE, COMMENT_BYTE, NAME_BYTE}
use Rattle.adf_block.specs.Whole.{text_at}
use Rattle.ados_name.specs.Name.{Same, slot, IsName}
use Rattle.ados_name.specs.declared.comment.TheConstants.Comment as comments
use Rattle.ados_model.specs.Stands.{HasExtension, HasFile}
use Rattle.ados_model.specs.Phrases.{kind_bytes}
use Rattle.ados_model.specs.File.{data_blocks, extension_blocks, contents}
use Rattle.ados_model.specs.declared.role.Role.{Role}
use Rattle.ados_model.specs.declared.role.Role.TheVariants.{Root, Page, Entry, Data, Extension}
use Rattle.ados_check.specs.declared.mark.Mark.{Mark}
use Rattle.ados_model.specs.Faults.{HasDirectoryType, HasFileType, IsOfs, IsPlace, LeadsInside, Reached, root_of}

-- the mark of a block, or none
abbrev pub mark_at : List (Option Mark) → ℕ → Option Mark
mark_at marks block = option_and_then (λ mark. mark) (slice_get marks block)

-- the block is marked with a role, and with long i of a holder
abbrev pub IsMarkedFor : List (Option Mark) → ℕ → Role → ℕ → ℕ → Type 0
IsMarkedFor marks block role holder i = mark_at marks block ≡ Some (record { role = role; holder = holder; long = i })

-- the header is that of a directory or a file
abbrev pub HasEntryType : List ℕ → ℕ → Type 0
HasEntryType image block = HasDirectoryType image block ⊎ HasFileType image block

-- the block has a valid name
pub record HasValidName (image : List ℕ) (block : ℕ) : Type 0 where
  pub text : HasText image block NAME_BYTE (text_at image block NAME_BYTE)
  pub valid : IsName (text_at image block NAME_BYTE)

-- a root with the right fields
pub record IsSoundRoot (image : List ℕ) (block : ℕ) : Type 0 where
  pub primary : primary_type image block ≡ HEADER_TYPE
  pub table_size : long image block TABLE_SIZE ≡ TABLE_LONGS
  pub secondary : secondary_type image block ≡ ROOT_TYPE
  pub parent : parent_key image block ≡ 0
  pub sum : block_sum image block ≡ 0
  pub name : HasValidName image block

-- a directory or file with the right fields, in the hash chain of its slot
pub record IsSoundEntry (image : List ℕ) (block dir s : ℕ) : Type 0 where
  pub primary : primary_type image block ≡ HEADER_TYPE
  pub secondary : HasEntryType image block
  pub key_field : own_key image block ≡ block
  pub parent : parent_key image block ≡ dir
  pub sum : block_sum image block ≡ 0
  pub name : HasValidName image block
  pub slotted : slot (text_at image block NAME_BYTE) ≡ s
  pub comment : byte_at image block COMMENT_BYTE ≤ comments.MAX_LEN

-- an OFS data block with the right fields, as far as they do not depend on its position in the file
pub record IsSoundData (image : List ℕ) (block file : ℕ) : Type 0 where
  pub primary : primary_type image block ≡ DATA_TYPE
  pub header : own_key image block ≡ file
  pub sum : block_sum image block ≡ 0

-- a block has the right fields of its role, as far as they need no other block
abbrev pub IsSound : List ℕ → ℕ → Role → Type 0
IsSound image block Root = IsSoundRoot image block
IsSound image block Page = block_sum image block ≡ 0
IsSound image block (Entry dir s) = IsSoundEntry image block dir s
IsSound image block (Data file) = IsOfs image → IsSoundData image block file
IsSound image block (Extension file) = HasExtension image file block

-- each place of a marked block names a block inside the image
abbrev pub PlacesAreInside : List ℕ → List (Option Mark) → Type 0
PlacesAreInside image marks =
    (block i : ℕ) (mark : Mark) (next : Role) → mark_at marks block ≡ Some mark → IsPlace image block mark.role i next
    → LeadsInside image block i

-- each place of a marked block names a block that is marked with this place
abbrev pub PlacesAreMarked : List ℕ → List (Option Mark) → Type 0
PlacesAreMarked image marks =
    (block i : ℕ) (mark : Mark) (next : Role) → mark_at marks block ≡ Some mark → IsPlace image block mark.role i next
    → IsMarkedFor marks (long image block i) next block i

-- the marks are those of exactly the reached blocks
pub record AreReached (image : List ℕ) (marks : List (Option Mark)) : Type 0 where
  pub size : length marks ≡ block_count image
  pub root : IsMarkedFor marks (root_of image) Root 0 0
  pub reached : (block : ℕ) (mark : Mark) → mark_at marks block ≡ Some mark → Reached image block mark.role
  pub inside : PlacesAreInside image marks
  pub marked : PlacesAreMarked image marks
  pub sound : (block : ℕ) (mark : Mark) → mark_at marks block ≡ Some mark → IsSound image block mark.role

-- the block is marked as an entry of a directory
abbrev pub IsMarkedEntry : List (Option Mark) → ℕ → ℕ → Type 0
IsMarkedEntry marks block dir = (mark : Mark) × (s : ℕ) × (mark_at marks block ≡ Some mark) × (mark.role ≡ Entry dir s)

-- the two blocks have the same name
abbrev pub HaveOneName : List ℕ → ℕ → ℕ → Type 0
HaveOneName image block other = Same (text_at image block NAME_BYTE) (text_at image other NAME_BYTE)

-- two marked entries of a directory with the same name are the same block
abbrev pub AreUnlike : List ℕ → List (Option Mark) → Type 0
AreUnlike image marks =
    (block other dir : ℕ) → IsMarkedEntry marks block dir → IsMarkedEntry marks other dir → HaveOneName image block other → block ≡ other

-- the counts and the size of a file match its blocks
abbrev pub IsSoundFile : List ℕ → ℕ → Type 0
IsSoundFile image file = HasFile image (format_of image) file (data_blocks image file) (extension_blocks image file) (contents image file)

-- the image shows no fault, except possibly in its bitmap
pub record IsChecked (image : List ℕ) (marks : List (Option Mark)) : Type 0 where
  pub boot : bytes_at image 0 0 4 ≡ kind_bytes (format_of image)
  pub reached : AreReached image marks
  pub files : (file dir : ℕ) → IsMarkedEntry marks file dir → secondary_type image file ≡ FILE_TYPE → IsSoundFile image file
  pub unlike : AreUnlike image marks
