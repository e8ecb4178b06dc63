-- The faults of an image, defined without a tree.
use Rattle.std.specs.Prelude.{◌≡◌, ◌≢◌, nat_le, if◌then◌else◌, ℕ, zero, suc, ◌+◌, ◌-◌, ◌/◌, ◌<◌, ◌≤◌, ◌⊎◌, ⊤, List}
use Rattle.std.specs.Prelude.{[], ◌∷◌, ◌++◌, length, flat_map, slice_index, sum_by, All, AllPairs, Contains, Option}
use Rattle.std.specs.Prelude.{Some, None, ℤ, pos}
use Rattle.adf_block.specs.Image.{block_count, root_key, page_count, byte_at, bytes_at, long, block_sum, IsInside}
use Rattle.adf_block.specs.Whole.{HasFreeBit, text_at}
use Rattle.adf_block.specs.Fields.{format_of, primary_type, own_key, pointer_count, sequence_number, held_count}
use Rattle.adf_block.specs.Fields.{table_entry, pointer, file_size, parent_key, secondary_type}
use Rattle.ados_name.specs.Name.{Same, slot}
use Rattle.ados_model.specs.declared.role.Role.{Role}
use Rattle.ados_model.specs.declared.role.Role.TheVariants.{Root, Page, Entry, Data, Extension}
use Rattle.ados_model.specs.declared.fault.FaultKind.{FaultKind}
use Rattle.ados_model.specs.declared.fault.FaultKind.TheVariants.{NotADosDisk, UnsupportedKind, BadSum, BadType}
use Rattle.ados_model.specs.declared.fault.FaultKind.TheVariants.{BadOwnKey, BadParent, BadPointer, BlockUsedTwice}
use Rattle.ados_model.specs.declared.fault.FaultKind.TheVariants.{WrongChain, BadName, DuplicateName, BadComment}
use Rattle.ados_model.specs.declared.fault.FaultKind.TheVariants.{BadCount, BadSequence, LinkEntry, MarkedFree}
use Rattle.ados_model.specs.declared.fault.FaultKind.TheVariants.{NoMemory}
use Rattle.ados_model.specs.Packet.{error_number}
use Rattle.ados_model.specs.declared.dos_error.DosError.TheVariants as errors
use Rattle.ados_model.specs.Tree.{data_count}
use Rattle.adf_block.specs.declared.layout.TheConstants.{BOOT_BLOCKS, HEADER_TYPE, DATA_TYPE, LIST_TYPE, ROOT_TYPE}
use Rattle.adf_block.specs.declared.layout.TheConstants.{DIRECTORY_TYPE, FILE_TYPE, TABLE_LONGS, TABLE_SIZE}
use Rattle.adf_block.specs.declared.layout.TheConstants.{FIRST_SLOT, FIRST_POINTER, BITMAP_FLAG, BITMAP_VALID}
use Rattle.adf_block.specs.declared.layout.TheConstants.{FIRST_PAGE, COMMENT_BYTE, NAME_BYTE, NEXT_IN_CHAIN}
use Rattle.adf_block.specs.declared.layout.TheConstants.{NEXT_EXTENSION, NEXT_DATA, OFS_ROOM, PAGE_BITS}
use Rattle.adf_block.specs.declared.beside.TheConstants.{KIND_BYTE, SOFT_LINK_TYPE, DIRECTORY_LINK_TYPE, FILE_LINK_TYPE}

-- the block number of the root
abbrev pub root_of : List ℕ → ℕ
root_of image = root_key (block_count image)

-- the block is inside the image, after the boot blocks
abbrev pub InImage : List ℕ → ℕ → Type 0
InImage image block = IsInside (block_count image) block

-- long i of the block has the number of a block inside the image
abbrev pub LeadsInside : List ℕ → ℕ → ℕ → Type 0
LeadsInside image block i = InImage image (long image block i)

-- the header is that of a directory
abbrev pub HasDirectoryType : List ℕ → ℕ → Type 0
HasDirectoryType image block = secondary_type image block ≡ DIRECTORY_TYPE

-- the header is that of a file
abbrev pub HasFileType : List ℕ → ℕ → Type 0
HasFileType image block = secondary_type image block ≡ FILE_TYPE

-- the slot has a hash chain
abbrev pub HasChain : List ℕ → ℕ → ℕ → Type 0
HasChain image block s = table_entry image block s ≢ 0

-- an extension block follows
abbrev pub IsContinued : List ℕ → ℕ → Type 0
IsContinued image block = long image block NEXT_EXTENSION ≢ 0

-- pointer i is in use, and the number of pointers is at most 72
abbrev pub IsPointer : List ℕ → ℕ → ℕ → Type 0
IsPointer image block i = (i < pointer_count image block) × (pointer_count image block ≤ TABLE_LONGS)

-- long i of a block in a role is a place: it has the number of another block, and the place determines that block's
-- role
pub data IsPlace (image : List ℕ) : ℕ → Role → ℕ → Role → Type 0 where
  root_page : {block i : ℕ} → i < page_count (block_count image) → IsPlace image block Root (FIRST_PAGE + i) Page
  root_slot : {block s : ℕ} → s < TABLE_LONGS → HasChain image block s
      → IsPlace image block Root (FIRST_SLOT + s) (Entry block s)
  directory_slot : {block dir r s : ℕ} → HasDirectoryType image block → s < TABLE_LONGS → HasChain image block s
      → IsPlace image block (Entry dir r) (FIRST_SLOT + s) (Entry block s)
  next_entry : {block dir s : ℕ} → long image block NEXT_IN_CHAIN ≢ 0
      → IsPlace image block (Entry dir s) NEXT_IN_CHAIN (Entry dir s)
  header_pointer : {block dir s i : ℕ} → HasFileType image block → IsPointer image block i
      → IsPlace image block (Entry dir s) (FIRST_POINTER - i) (Data block)
  first_extension : {block dir s : ℕ} → HasFileType image block → IsContinued image block
      → IsPlace image block (Entry dir s) NEXT_EXTENSION (Extension block)
  extension_pointer : {block file i : ℕ} → IsPointer image block i
      → IsPlace image block (Extension file) (FIRST_POINTER - i) (Data file)
  further_extension : {block file : ℕ} → IsContinued image block
      → IsPlace image block (Extension file) NEXT_EXTENSION (Extension file)

-- the reached blocks, each with a role: the root, and each block that a place of a reached block names
pub data Reached (image : List ℕ) : ℕ → Role → Type 0 where
  start : Reached image (root_of image) Root
  named : {block i : ℕ} {role next : Role} → Reached image block role → IsPlace image block role i next
      → LeadsInside image block i
      → Reached image (long image block i) next

-- an entry that is a directory
pub record IsDirectory (image : List ℕ) (block : ℕ) : Type 0 where
  pub dir : ℕ
  pub slot_of_chain : ℕ
  pub reached : Reached image block (Entry dir slot_of_chain)
  pub secondary : HasDirectoryType image block

-- an entry that is a file
pub record IsFile (image : List ℕ) (block : ℕ) : Type 0 where
  pub dir : ℕ
  pub slot_of_chain : ℕ
  pub reached : Reached image block (Entry dir slot_of_chain)
  pub secondary : HasFileType image block

-- the block is an entry of some directory
abbrev pub IsEntry : List ℕ → ℕ → Type 0
IsEntry image block = (dir : ℕ) × (s : ℕ) × Reached image block (Entry dir s)

-- the block is an extension block of some file
abbrev pub IsExtension : List ℕ → ℕ → Type 0
IsExtension image block = (file : ℕ) × Reached image block (Extension file)

-- the block is a data block of some file
abbrev pub IsData : List ℕ → ℕ → Type 0
IsData image block = (file : ℕ) × Reached image block (Data file)

-- the volume is OFS; only in OFS have data blocks a checksum and fields
abbrev pub IsOfs : List ℕ → Type 0
IsOfs image = byte_at image 0 KIND_BYTE ≡ 0

-- the link of each block but the last is the next block
abbrev pub LeadOn : List ℕ → ℕ → List ℕ → Type 0
LeadOn image link blocks =
    (i : ℕ) → i + 1 < length blocks → long image (slice_index blocks i) link ≡ slice_index blocks (i + 1)

-- each block but the first is in the image
abbrev pub FurtherAreInside : List ℕ → List ℕ → Type 0
FurtherAreInside image blocks = (i : ℕ) → i + 1 < length blocks → InImage image (slice_index blocks (i + 1))

-- the link of the data block at position i is the next of these data blocks, or 0 after the last
abbrev pub LinksOn : List ℕ → ℕ → List ℕ → ℕ → Type 0
LinksOn image block blocks i = long image block NEXT_DATA ≡ slice_index blocks (i + 1)

-- no block occurs twice
abbrev pub AreDistinct : List ℕ → Type 0
AreDistinct blocks = AllPairs (λ a b. a ≢ b) blocks

-- the link of the last block
abbrev pub last_link : List ℕ → ℕ → List ℕ → ℕ
last_link image link blocks = long image (slice_index blocks (length blocks - 1)) link

-- the link of the last block is outside the image, or leads back to one of the blocks
abbrev pub LeadsOutOrBack : List ℕ → ℕ → List ℕ → Type 0
LeadsOutOrBack image link blocks =
    InImage image (last_link image link blocks) → Contains blocks (last_link image link blocks)

-- the blocks along the links from a first block, in order, each once
pub record LinkedOnce (image : List ℕ) (link first : ℕ) (blocks : List ℕ) : Type 0 where
  pub not_empty : 0 < length blocks
  pub head : slice_index blocks 0 ≡ first
  pub linked : LeadOn image link blocks
  pub inside : FurtherAreInside image blocks
  pub once : AreDistinct blocks
  pub whole : LeadsOutOrBack image link blocks

-- the first n pointers of a block
abbrev pub first_pointers : List ℕ → ℕ → ℕ → List ℕ
first_pointers image block zero = []
first_pointers image block (suc n) = first_pointers image block n ++ pointer image block n ∷ []

-- the data pointers of a block; none if their number is more than 72
abbrev pub pointers_of : List ℕ → ℕ → List ℕ
pointers_of image block =
    if nat_le (pointer_count image block) TABLE_LONGS then first_pointers image block
    (pointer_count image block) else []

-- the data blocks of a file: the pointers of its header, then of each extension block
pub record AreDataBlocks (image : List ℕ) (file : ℕ) (blocks : List ℕ) : Type 0 where
  pub is_file : IsFile image file
  pub headers : List ℕ
  pub linked : LinkedOnce image NEXT_EXTENSION file headers
  pub pointed : blocks ≡ flat_map (pointers_of image) headers

-- the number of data blocks for the size of a file
abbrev pub count_of_size : List ℕ → ℕ → ℕ
count_of_size image file = data_count (format_of image) (file_size image file)

-- the data blocks of a file, all inside the image, hold another number of bytes than its size
pub record HoldsOtherSize (image : List ℕ) (file : ℕ) : Type 0 where
  pub blocks : List ℕ
  pub of_file : AreDataBlocks image file blocks
  pub inside : All (InImage image) blocks
  pub wrong : sum_by (held_count image) blocks ≢ file_size image file

-- the data block at position i of a file
pub record IsDataAt (image : List ℕ) (file : ℕ) (blocks : List ℕ) (i block : ℕ) : Type 0 where
  pub of_file : AreDataBlocks image file blocks
  pub within : i < length blocks
  pub here : slice_index blocks i ≡ block
  pub inside : InImage image block

-- a data block of a file other than the last one
pub record IsInnerData (image : List ℕ) (block : ℕ) : Type 0 where
  pub file : ℕ
  pub i : ℕ
  pub blocks : List ℕ
  pub at : IsDataAt image file blocks i block
  pub followed : i + 1 < length blocks

-- blocks of this role have a checksum
abbrev pub HasSum : List ℕ → Role → Type 0
HasSum image (Data file) = IsOfs image
HasSum image _ = ⊤

-- the secondary types of links: a soft link, a hard link to a directory, one to a file
abbrev pub IsLinkType : ℕ → Type 0
IsLinkType n = (n ≡ SOFT_LINK_TYPE) ⊎ (n ≡ DIRECTORY_LINK_TYPE) ⊎ (n ≡ FILE_LINK_TYPE)

-- the header is that of a link
abbrev pub HasLinkType : List ℕ → ℕ → Type 0
HasLinkType image block = IsLinkType (secondary_type image block)

-- a reached block has a wrong checksum
pub record HasBadSum (image : List ℕ) (block : ℕ) : Type 0 where
  pub role : Role
  pub reached : Reached image block role
  pub summed : HasSum image role
  pub wrong : block_sum image block ≢ 0

-- a wrong type, or a wrong table size
pub data HasBadType (image : List ℕ) (block : ℕ) : Type 0 where
  root_primary : block ≡ root_of image → primary_type image block ≢ HEADER_TYPE → HasBadType image block
  root_table : block ≡ root_of image → long image block TABLE_SIZE ≢ TABLE_LONGS → HasBadType image block
  root_secondary : block ≡ root_of image → secondary_type image block ≢ ROOT_TYPE → HasBadType image block
  entry_primary : IsEntry image block → primary_type image block ≢ HEADER_TYPE → HasBadType image block
  entry_secondary : IsEntry image block → ¬ HasDirectoryType image block → ¬ HasFileType image block
      → ¬ HasLinkType image block → HasBadType image block
  extension_primary : IsExtension image block → primary_type image block ≢ LIST_TYPE → HasBadType image block
  extension_secondary : IsExtension image block → ¬ HasFileType image block → HasBadType image block
  data_primary : IsOfs image → IsData image block → primary_type image block ≢ DATA_TYPE → HasBadType image block

-- the own number of an entry or extension block is wrong
pub data HasBadOwnKey (image : List ℕ) (block : ℕ) : Type 0 where
  entry_key : IsEntry image block → own_key image block ≢ block → HasBadOwnKey image block
  extension_key : IsExtension image block → own_key image block ≢ block → HasBadOwnKey image block

-- the parent or file header in the block is not the block that holds it
pub data HasBadParent (image : List ℕ) (block : ℕ) : Type 0 where
  root_parent : block ≡ root_of image → parent_key image block ≢ 0 → HasBadParent image block
  entry_parent : {dir s : ℕ} → Reached image block (Entry dir s) → parent_key image block ≢ dir
      → HasBadParent image block
  extension_file : {file : ℕ} → Reached image block (Extension file) → parent_key image block ≢ file
      → HasBadParent image block
  data_file : {file : ℕ} → IsOfs image → Reached image block (Data file) → own_key image block ≢ file
      → HasBadParent image block

-- a place names a block outside the image; or, in OFS, the link from one data block to the next is wrong
pub data HasBadPointer (image : List ℕ) (block : ℕ) : Type 0 where
  outside : {i : ℕ} {role next : Role} → Reached image block role → IsPlace image block role i next
      → ¬ LeadsInside image block i → HasBadPointer image block
  first_data : IsOfs image → IsFile image block → long image block NEXT_DATA ≢ slice_index (pointers_of image block) 0
      → HasBadPointer image block
  further_data : {file i : ℕ} {blocks : List ℕ} → IsOfs image → IsDataAt image file blocks i block
      → ¬ LinksOn image block blocks i → HasBadPointer image block

-- long i of a reached block is a place that names the block
pub record PlaceNames (image : List ℕ) (holder i block : ℕ) : Type 0 where
  pub role : Role
  pub next : Role
  pub reached : Reached image holder role
  pub place : IsPlace image holder role i next
  pub names : long image holder i ≡ block

-- a place of the holder names the block
abbrev pub IsNamedBy : List ℕ → ℕ → ℕ → Type 0
IsNamedBy image block holder = (i : ℕ) × PlaceNames image holder i block

-- two places name the block, or a place names the root
pub data IsUsedTwice (image : List ℕ) (block : ℕ) : Type 0 where
  two_holders : {holder other : ℕ} → InImage image block → IsNamedBy image block holder → IsNamedBy image block other
      → holder ≢ other → IsUsedTwice image block
  two_longs : {holder i j : ℕ} → InImage image block → PlaceNames image holder i block → PlaceNames image holder j block
      → i ≢ j → IsUsedTwice image block
  root_named : {holder i : ℕ} → block ≡ root_of image → PlaceNames image holder i block → IsUsedTwice image block

-- the length of an entry's name is at most 30; a longer name is bad, and is no fault of the chain or a duplicate
abbrev pub HasShortName : List ℕ → ℕ → Type 0
HasShortName image block = byte_at image block NAME_BYTE ≤ 30

-- an entry is in another hash chain than that of its name
pub record IsInWrongChain (image : List ℕ) (block : ℕ) : Type 0 where
  pub dir : ℕ
  pub slot_of_chain : ℕ
  pub reached : Reached image block (Entry dir slot_of_chain)
  pub short : HasShortName image block
  pub wrong : slot (text_at image block NAME_BYTE) ≢ slot_of_chain

-- a root or entry has a name
pub data HasName (image : List ℕ) (block : ℕ) : Type 0 where
  root_name : block ≡ root_of image → HasName image block
  entry_name : IsEntry image block → HasName image block

-- the name is empty, longer than 30 bytes, or has a `/` or `:`
pub data HasBadName (image : List ℕ) (block : ℕ) : Type 0 where
  empty : HasName image block → byte_at image block NAME_BYTE ≡ 0 → HasBadName image block
  long_name : HasName image block → 30 < byte_at image block NAME_BYTE → HasBadName image block
  slash : HasName image block → Contains (text_at image block NAME_BYTE) 47 → HasBadName image block
  colon : HasName image block → Contains (text_at image block NAME_BYTE) 58 → HasBadName image block

-- another entry of the same directory has the same name
pub record HasDuplicateName (image : List ℕ) (block : ℕ) : Type 0 where
  pub other : ℕ
  pub dir : ℕ
  pub slot_of_chain : ℕ
  pub other_slot : ℕ
  pub reached : Reached image block (Entry dir slot_of_chain)
  pub other_reached : Reached image other (Entry dir other_slot)
  pub two : block ≢ other
  pub short : HasShortName image block
  pub other_short : HasShortName image other
  pub same : Same (text_at image block NAME_BYTE) (text_at image other NAME_BYTE)

-- the comment of a directory or file is longer than 79 bytes
pub data HasBadComment (image : List ℕ) (block : ℕ) : Type 0 where
  directory_comment : IsDirectory image block → 79 < byte_at image block COMMENT_BYTE → HasBadComment image block
  file_comment : IsFile image block → 79 < byte_at image block COMMENT_BYTE → HasBadComment image block

-- a file header or extension block has data pointers
pub data HasPointers (image : List ℕ) (block : ℕ) : Type 0 where
  file_pointers : IsFile image block → HasPointers image block
  extension_pointers : IsExtension image block → HasPointers image block

-- a count or a size does not match the blocks of the file
pub data HasBadCount (image : List ℕ) (block : ℕ) : Type 0 where
  over : HasPointers image block → TABLE_LONGS < pointer_count image block → HasBadCount image block
  not_full : HasPointers image block → pointer_count image block < TABLE_LONGS → IsContinued image block
      → HasBadCount image block
  no_pointer : IsExtension image block → pointer_count image block ≡ 0 → HasBadCount image block
  wrong_size : {blocks : List ℕ} → AreDataBlocks image block blocks → length blocks ≢ count_of_size image block
      → HasBadCount image block
  held_not_full : IsOfs image → IsInnerData image block → held_count image block ≢ OFS_ROOM → HasBadCount image block
  held_none : {file i : ℕ} {blocks : List ℕ} → IsOfs image → IsDataAt image file blocks i block
      → held_count image block ≡ 0 → HasBadCount image block
  held_over : {file i : ℕ} {blocks : List ℕ} → IsOfs image → IsDataAt image file blocks i block
      → OFS_ROOM < held_count image block → HasBadCount image block
  wrong_sum : IsOfs image → HoldsOtherSize image block → HasBadCount image block

-- an OFS data block whose sequence number is not its position in the file, from 1
pub record HasBadSequence (image : List ℕ) (block : ℕ) : Type 0 where
  pub file : ℕ
  pub i : ℕ
  pub blocks : List ℕ
  pub ofs : IsOfs image
  pub at : IsDataAt image file blocks i block
  pub wrong : sequence_number image block ≢ i + 1

-- a reached block is marked free; the bitmap is valid, and the bitmap block with its bit is inside the image
pub record IsReachedAndFree (image : List ℕ) (block : ℕ) : Type 0 where
  pub valid : long image (root_of image) BITMAP_FLAG ≡ BITMAP_VALID
  pub role : Role
  pub reached : Reached image block role
  pub page : InImage image (long image (root_of image) (FIRST_PAGE + (block - BOOT_BLOCKS) / PAGE_BITS))
  pub free : HasFreeBit image block

-- the image shows the fault at the block
abbrev pub Shows : List ℕ → FaultKind → ℕ → Type 0
Shows image NotADosDisk block = (bytes_at image 0 0 3 ≢ 68 ∷ 79 ∷ 83 ∷ []) × (block ≡ 0)
Shows image UnsupportedKind block =
    (bytes_at image 0 0 3 ≡ 68 ∷ 79 ∷ 83 ∷ []) × (1 < byte_at image 0 KIND_BYTE) × (block ≡ 0)
Shows image BadSum block = HasBadSum image block
Shows image BadType block = HasBadType image block
Shows image BadOwnKey block = HasBadOwnKey image block
Shows image BadParent block = HasBadParent image block
Shows image BadPointer block = HasBadPointer image block
Shows image BlockUsedTwice block = IsUsedTwice image block
Shows image WrongChain block = IsInWrongChain image block
Shows image BadName block = HasBadName image block
Shows image DuplicateName block = HasDuplicateName image block
Shows image BadComment block = HasBadComment image block
Shows image BadCount block = HasBadCount image block
Shows image BadSequence block = HasBadSequence image block
Shows image LinkEntry block = IsEntry image block × HasLinkType image block
Shows image MarkedFree block = IsReachedAndFree image block
-- out of memory is no fault of the image
Shows image NoMemory block = ⊥

-- the AmigaDOS error number of a fault
abbrev pub dos_number : FaultKind → Option ℤ
dos_number NotADosDisk = Some (pos (error_number errors.NotADosDisk))
dos_number NoMemory = Some (pos (error_number errors.NoFreeStore))
dos_number _ = None
