-- The bit of a block, and the blocks that a check of the bitmap reads.
use Rattle.std.specs.Prelude.{ℕ, ◌<◌, List}
use Rattle.adf_block.specs.Whole.{HasFreeBit}
use Rattle.ados_map.specs.Pages.{page_block, page_of, pages_of}
use Rattle.ados_model.specs.Faults.{InImage, root_of}
use Rattle.ados_check.specs.Source.{SourceView, Tells}

-- the root and all bitmap blocks are available
pub record TellsBitmap (source : SourceView) : Type 0 where
  pub root : (i : ℕ) → Tells source (root_of source.bytes) i
  pub page : (p i : ℕ) → p < pages_of source.bytes → Tells source (page_block source.bytes p) i

-- the bitmap block with the bit of the block is inside the image, and marks the block free
pub record IsFree (image : List ℕ) (block : ℕ) : Type 0 where
  pub page : InImage image (page_block image (page_of block))
  pub free : HasFreeBit image block
