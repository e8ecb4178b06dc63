-- A source of blocks, as a check of an image reads it.
use Rattle.std.specs.Prelude.{◌≡◌, ◌≢◌, ℕ, ◌/◌, ◌<◌, ◌⊎◌, List, Bool, IsTrue}
use Rattle.adf_block.specs.Image.{block_sum}
use Rattle.adf_block.specs.Fields.{primary_type}
use Rattle.adf_block.specs.declared.layout.TheConstants.{DATA_TYPE, OFS_DATA_BYTE}

-- the bytes of the image, and whether all of them are available
pub record SourceView : Type 0 where
  pub bytes : List ℕ
  pub whole : Bool

-- the number of longs in the header of an OFS data block
abbrev pub header_longs : ℕ
header_longs = OFS_DATA_BYTE / 4

-- a sketch has long i of a block: the checksum is right, and the long is in the header or the block is not an OFS data
-- block
abbrev pub IsKept : List ℕ → ℕ → ℕ → Type 0
IsKept image block i = (block_sum image block ≡ 0) × ((i < header_longs) ⊎ (primary_type image block ≢ DATA_TYPE))

-- long i of the block is available
abbrev pub Tells : SourceView → ℕ → ℕ → Type 0
Tells source block i = IsTrue source.whole ⊎ IsKept source.bytes block i
