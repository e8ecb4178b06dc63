-- Headers that are damaged, but can still be told as the entries that a damaged image names. Some sound headers may be left out.
-- And damaged extension and data blocks.
use Rattle.std.specs.Prelude.{◌≡◌, ℕ, ◌+◌, ◌<◌, ◌⊎◌, List, Contains}
use Rattle.adf_block.specs.Image.{block_count, long, root_key, IsInside}
use Rattle.adf_block.specs.Fields.{own_key, parent_key, primary_type, secondary_type, sequence_number}
use Rattle.adf_block.specs.declared.layout.TheConstants.{DATA_TYPE, FIRST_SLOT, HEADER_TYPE, LIST_TYPE, NAME_BYTE, NEXT_IN_CHAIN, ROOT_TYPE, TABLE_LONGS}
use Rattle.adf_block.specs.Whole.{text_at}
use Rattle.ados_name.specs.Name.{IsName}
use Rattle.ados_check.specs.Marks.{HasEntryType}
use Rattle.ados_model.specs.Faults.{HasDirectoryType, HasFileType}
use Rattle.ados_salvage.specs.Sound.{IsSoundHeader}

-- the block is in the place of the root, with the types of one
pub record IsRoot (image : List ℕ) (block : ℕ) : Type 0 where
  pub place : block ≡ root_key (block_count image)
  pub primary : primary_type image block ≡ HEADER_TYPE
  pub secondary : secondary_type image block ≡ ROOT_TYPE

-- the block has the types of the header of a directory or file, its own number and a valid name, whatever else it has
pub record LooksLikeHeader (image : List ℕ) (block : ℕ) : Type 0 where
  pub inside : IsInside (block_count image) block
  pub primary : primary_type image block ≡ HEADER_TYPE
  pub secondary : HasEntryType image block
  pub key_field : own_key image block ≡ block
  pub name : IsName (text_at image block NAME_BYTE)

-- the block is an extension block of the file by its types, its file and its own number, whatever else it has
pub record LooksLikeExtension (image : List ℕ) (file block : ℕ) : Type 0 where
  pub primary : primary_type image block ≡ LIST_TYPE
  pub secondary : HasFileType image block
  pub of_file : parent_key image block ≡ file
  pub key_field : own_key image block ≡ block

-- the block is OFS data block i of the file by its type, its file and its number, whatever else it has
pub record IsOwnData (image : List ℕ) (file i block : ℕ) : Type 0 where
  pub primary : primary_type image block ≡ DATA_TYPE
  pub of_file : own_key image block ≡ file
  pub number : sequence_number image block ≡ i + 1

-- the block has a hash table by its type, that of the root or of a directory
abbrev pub HasTable : List ℕ → ℕ → Type 0
HasTable image block = (secondary_type image block ≡ ROOT_TYPE) ⊎ HasDirectoryType image block

-- the long is a slot of a hash table
abbrev pub IsSlot : List ℕ → ℕ → ℕ → Type 0
IsSlot image block at = HasTable image block × ((slot : ℕ) × (slot < TABLE_LONGS) × (at ≡ FIRST_SLOT + slot))

-- the long is the one of an entry that names the next entry in its hash chain
abbrev pub IsNext : List ℕ → ℕ → ℕ → Type 0
IsNext image block at = HasEntryType image block × (at ≡ NEXT_IN_CHAIN)

-- the long is a place for entries of the directory: a slot of the directory itself, or the next-entry long of an entry that has
-- it as its parent
abbrev pub IsPlaceIn : List ℕ → ℕ → ℕ → ℕ → Type 0
IsPlaceIn image dir block at = ((block ≡ dir) × IsSlot image block at) ⊎ ((parent_key image block ≡ dir) × IsNext image block at)

-- a sound header that is told: it is not left out
pub record IsToldHeader (out image : List ℕ) (block : ℕ) : Type 0 where
  pub sound : IsSoundHeader image block
  pub told : ¬ Contains out block

-- a block that looks like a header, and is not left out
pub record MayBeHeader (out image : List ℕ) (block : ℕ) : Type 0 where
  pub looks : LooksLikeHeader image block
  pub told : ¬ Contains out block

-- the blocks whose places are accepted: the root, each sound header, and each block that an accepted place of its parent names
-- and that looks like a header; of these, none that is left out
pub data NamesEntries (out image : List ℕ) : ℕ → Type 0 where
  of_root : {block : ℕ} → IsRoot image block → NamesEntries out image block
  of_sound : {block : ℕ} → IsToldHeader out image block → NamesEntries out image block
  of_named : {block holder at : ℕ} → NamesEntries out image holder → IsPlaceIn image (parent_key image block) holder at → long image holder at ≡ block
      → MayBeHeader out image block → NamesEntries out image block

-- an accepted place for entries of the directory names the block
pub record IsNamedIn (out image : List ℕ) (dir block : ℕ) : Type 0 where
  pub holder : ℕ
  pub at : ℕ
  pub accepted : NamesEntries out image holder
  pub place : IsPlaceIn image dir holder at
  pub named : long image holder at ≡ block

-- a block that looks like a header and is not left out, and that an accepted place for entries of its parent names
pub record IsNamedHeader (out image : List ℕ) (block : ℕ) : Type 0 where
  pub header : MayBeHeader out image block
  pub named : IsNamedIn out image (parent_key image block) block

-- a doubtful header: such a block that is no sound header
pub record IsDoubtfulHeader (out image : List ℕ) (block : ℕ) : Type 0 where
  pub header : IsNamedHeader out image block
  pub unsound : ¬ IsSoundHeader image block

-- a header that is told: a sound one, or one that its parent names, so each is sound or doubtful; none that is left out
abbrev pub IsHeader : List ℕ → List ℕ → ℕ → Type 0
IsHeader out image block = IsToldHeader out image block ⊎ IsNamedHeader out image block
