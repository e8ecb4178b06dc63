-- The data blocks that a file names, or that name it, where it is not whole.
use Rattle.std.specs.Prelude.{◌≡◌, ◌≢◌, ℕ, ◌+◌, ◌<◌, ◌==◌, ◌⊎◌, List, if◌then◌else◌}
use Rattle.adf_block.specs.Image.{block_sum}
use Rattle.adf_block.specs.Fields.{format_of, own_key, parent_key, pointer, pointer_count, primary_type, secondary_type}
use Rattle.adf_block.specs.declared.layout.Format.{Format}
use Rattle.adf_block.specs.declared.layout.Format.TheVariants.{Ffs, Ofs}
use Rattle.adf_block.specs.declared.layout.TheConstants.{FILE_TYPE, LIST_TYPE, TABLE_LONGS}
use Rattle.ados_salvage.specs.Doubtful.{IsOwnData}

-- how many of four fields are right that an extension block of the file has: its two types, its own number and its file
abbrev pub right_fields : List ℕ → ℕ → ℕ → ℕ
right_fields image file block =
    ((if primary_type image block == LIST_TYPE then 1 else 0) + (if secondary_type image block == FILE_TYPE then 1 else 0))
    + ((if own_key image block == block then 1 else 0) + (if parent_key image block == file then 1 else 0))

-- the block counts as an extension block of the file: all of these are right, or all but one and its checksum is wrong
abbrev pub CountsAsExtension : List ℕ → ℕ → ℕ → Type 0
CountsAsExtension image file block = (right_fields image file block ≡ 4) ⊎ ((right_fields image file block ≡ 3) × (block_sum image block ≢ 0))

-- a pointer block of the file: its header, or a block that counts as an extension block of it
abbrev pub IsPointerBlock : List ℕ → ℕ → ℕ → Type 0
IsPointerBlock image file block = (block ≡ file) ⊎ CountsAsExtension image file block

-- a pointer within the count of a pointer block of the file names the block
pub record IsPointedTo (image : List ℕ) (file block : ℕ) : Type 0 where
  pub holder : ℕ
  pub holds : IsPointerBlock image file holder
  pub i : ℕ
  pub small : i < TABLE_LONGS
  pub counted : i < pointer_count image holder
  pub names : pointer image holder i ≡ block

-- the block is due to the file as data block i: in OFS it is data of this file with this number, whatever its checksum is; in FFS the file
-- points to it
abbrev pub IsDueIn : Format → List ℕ → ℕ → ℕ → ℕ → Type 0
IsDueIn Ofs image file i block = IsOwnData image file i block
IsDueIn Ffs image file i block = IsPointedTo image file block

abbrev pub IsDue : List ℕ → ℕ → ℕ → ℕ → Type 0
IsDue image file i block = IsDueIn (format_of image) image file i block
