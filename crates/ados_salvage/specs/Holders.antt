-- The pointer blocks of a file, its header and its extension blocks, and the blocks that they point to, whatever these contain now.
use Rattle.std.specs.Prelude.{◌≡◌, ℕ, suc, ◌-◌, ◌*◌, ◌<◌, ◌≤◌, ◌⊎◌, min, false, Bool, List}
use Rattle.adf_block.specs.Image.{block_count, long}
use Rattle.adf_block.specs.Fields.{pointer, pointer_count}
use Rattle.adf_block.specs.declared.layout.TheConstants.{NEXT_EXTENSION, TABLE_LONGS}
use Rattle.ados_census.specs.steps.Marks.{IsMarked}
use Rattle.ados_model.specs.Faults.{HasFileType, InImage}
use Rattle.ados_model.specs.File.{pointer_block}
use Rattle.ados_model.specs.Stands.{HasExtension}
use Rattle.ados_model.specs.Tree.{extension_count}
use Rattle.ados_salvage.specs.Doubtful.{LooksLikeExtension}
use Rattle.ados_salvage.specs.Marks.{mark_at}
use Rattle.ados_salvage.specs.Sound.{IsSoundHeader, data_needed}

-- the number of extension blocks that the file's size needs
abbrev pub extensions_needed : List ℕ → ℕ → ℕ
extensions_needed image file = extension_count (data_needed image file)

-- the block can be pointer block q of the file
pub record IsHolder (image : List ℕ) (file q block : ℕ) : Type 0 where
  pub inside : InImage image block
  pub fields : 0 < q → HasExtension image file block
  pub counted : pointer_count image block ≡ min TABLE_LONGS (data_needed image file - TABLE_LONGS * q)

-- the header and the extension blocks have the right fields for their positions
pub record HasHolders (image : List ℕ) (file : ℕ) : Type 0 where
  pub holder : (q : ℕ) → q ≤ extensions_needed image file → IsHolder image file q (pointer_block image file q)
  pub ends : pointer_block image file (suc (extensions_needed image file)) ≡ 0

-- all blocks of the file are known: the volume has as many as its size needs, and each pointer block is there
pub record HasKnownBlocks (image : List ℕ) (file : ℕ) : Type 0 where
  pub few : data_needed image file ≤ block_count image
  pub holders : HasHolders image file

-- the holder names the block as the next extension block, and the block looks like one of this file; its checksum may be wrong
pub record IsNextExtension (image : List ℕ) (file holder block : ℕ) : Type 0 where
  pub named : long image holder NEXT_EXTENSION ≡ block
  pub inside : InImage image block
  pub looks : LooksLikeExtension image file block

-- the extension blocks of a file, whatever their checksums are: the one that its header names, and each that one of them names
pub data HasExtensionBlock (image : List ℕ) (file : ℕ) : ℕ → Type 0 where
  first : {block : ℕ} → InImage image file → IsNextExtension image file file block → HasExtensionBlock image file block
  further : {holder block : ℕ} → HasExtensionBlock image file holder → IsNextExtension image file holder block → HasExtensionBlock image file block

-- the extension block after this one of the file, if there is one, is marked
abbrev pub AreMarkedAfter : List ℕ → List Bool → ℕ → ℕ → Type 0
AreMarkedAfter image marks file holder = (block : ℕ) → IsNextExtension image file holder block → IsMarked marks block

-- the block is the extension block after this one of the file, and is not marked
pub record IsNewAfter (image : List ℕ) (marks : List Bool) (file holder block : ℕ) : Type 0 where
  pub next : IsNextExtension image file holder block
  pub free : mark_at marks block ≡ false

-- the block is the file's header, or an extension block of it
abbrev pub IsHolderOf : List ℕ → ℕ → ℕ → Type 0
IsHolderOf image file block = (block ≡ file) ⊎ HasExtensionBlock image file block

-- a data pointer that is in use, or the link to the next extension block, names the block
abbrev pub PointsTo : List ℕ → ℕ → ℕ → Type 0
PointsTo image holder block =
    ((i : ℕ) × (i < min TABLE_LONGS (pointer_count image holder)) × (pointer image holder i ≡ block)) ⊎ (long image holder NEXT_EXTENSION ≡ block)

-- the header of a file, or an extension block of it, points to the block
pub record FilePointsTo (image : List ℕ) (file block : ℕ) : Type 0 where
  pub is_file : HasFileType image file
  pub holder : ℕ
  pub of_file : IsHolderOf image file holder
  pub points : PointsTo image holder block

-- a sound header names the block of the volume: it is in the block, or its file points to it, whether that file is intact or not
pub record HeaderNames (image : List ℕ) (header block : ℕ) : Type 0 where
  pub sound : IsSoundHeader image header
  pub inside : InImage image block
  pub names : (block ≡ header) ⊎ FilePointsTo image header block
