-- Reached blocks are inside the image.
use Rattle.std.proofs.Common.{ℕ, ◌≤◌, List, arith}
use Rattle.adf_block.specs.Image.{block_count, page_count}
use Rattle.adf_block.specs.Whole.{IsImage}
use Rattle.ados_model.specs.declared.role.Role.{Role}
use Rattle.ados_model.specs.Faults.{InImage, Reached, root_of}
use Rattle.ados_model.specs.Faults.Reached.{named, start}

module _ (image : List ℕ) (im : IsImage image) where
  pub root_inside : InImage image (root_of image)
  root_inside = (omega (arith, im.whole, im.size.0), omega (arith, im.whole, im.size.0))

  pub reached_inside : {block : ℕ} {role : Role} → Reached image block role → InImage image block
  reached_inside start = root_inside
  reached_inside (named h p inside) = inside

  pub few_pages : page_count (block_count image) ≤ 25
  few_pages = omega (arith, im.whole, im.size.0, im.size.1)
