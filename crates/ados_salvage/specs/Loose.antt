-- What is left of files without a header that is told: in OFS data blocks, and in FFS extension blocks.
use Rattle.std.specs.Prelude.{◌≡◌, ◌⊎◌, ℕ, List}
use Rattle.adf_block.specs.Image.{block_count, block_sum, IsInside}
use Rattle.adf_block.specs.Fields.{format_of, own_key, primary_type}
use Rattle.adf_block.specs.declared.layout.Format.TheVariants.{Ffs, Ofs}
use Rattle.adf_block.specs.declared.layout.TheConstants.{DATA_TYPE}
use Rattle.ados_salvage.specs.Doubtful.{LooksLikeExtension}

-- the block is an OFS data block by its type, with a right checksum, and names this header
pub record IsLooseData (image : List ℕ) (header block : ℕ) : Type 0 where
  pub inside : IsInside (block_count image) block
  pub kind : format_of image ≡ Ofs
  pub primary : primary_type image block ≡ DATA_TYPE
  pub sum : block_sum image block ≡ 0
  pub of_header : own_key image block ≡ header

-- the disk is an FFS disk, and the block is an extension block by its types and its own number, with a right checksum, and names this
-- header
pub record IsLooseExtension (image : List ℕ) (header block : ℕ) : Type 0 where
  pub inside : IsInside (block_count image) block
  pub kind : format_of image ≡ Ffs
  pub looks : LooksLikeExtension image header block
  pub sum : block_sum image block ≡ 0

-- one of both
abbrev pub IsLeft : List ℕ → ℕ → ℕ → Type 0
IsLeft image header block = IsLooseData image header block ⊎ IsLooseExtension image header block
