-- The bitmap blocks of an image, kept while a new bitmap is written.
use Rattle.std.specs.Prelude.{◌≡◌, ℕ, ◌*◌, ◌/◌, ◌%◌, List, map}
use Rattle.std.specs.List.{range_with_len}
use Rattle.adf_block.specs.declared.layout.TheConstants.{BLOCK_LONGS}
use Rattle.adf_block.specs.Image.{long}
use Rattle.adf_block.specs.Whole.{IsImage}
use Rattle.ados_map.specs.Pages.{page_block, pages_of}

-- long k of the bitmap blocks, one block after the other
abbrev pub page_long : List ℕ → ℕ → ℕ
page_long image k = long image (page_block image (k / BLOCK_LONGS)) (k % BLOCK_LONGS)

-- these are all longs of the bitmap blocks of the image
pub record AreKeptLongs (image longs : List ℕ) : Type 0 where
  pub whole : IsImage image
  pub all : longs ≡ map (page_long image) (range_with_len 0 (BLOCK_LONGS * pages_of image))
