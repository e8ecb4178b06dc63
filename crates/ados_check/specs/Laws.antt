-- Bitmaps by the marks of a check.
use Rattle.std.specs.Prelude.{◌≡◌, ℕ, List, map, Option, Some, is_some}
use Rattle.adf_block.specs.Whole.{HasFreeBit}
use Rattle.adf_block.specs.Image.{long, block_sum}
use Rattle.adf_block.specs.declared.layout.TheConstants.{BITMAP_FLAG, BITMAP_VALID}
use Rattle.adf_block.specs.declared.beside.TheConstants.{CHECKSUM}
use Rattle.adf_block.specs.Frame.{OnlyLong}
use Rattle.ados_map.specs.Changes.{PagesRebuilt}
use Rattle.ados_model.specs.Faults.{root_of}
use Rattle.ados_check.specs.declared.mark.Mark.{Mark}
use Rattle.ados_check.specs.Marks.{mark_at}

-- no marked block is free
abbrev pub AreInUse : List ℕ → List (Option Mark) → Type 0
AreInUse image marks = (block : ℕ) (mark : Mark) → mark_at marks block ≡ Some mark → ¬ HasFreeBit image block

-- the new image has a rebuilt bitmap with exactly the marked blocks in use, the flag of a valid bitmap in its root,
-- and a right checksum there
pub record IsMended (old : List ℕ) (marks : List (Option Mark)) (new : List ℕ) : Type 0 where
  pub paged : List ℕ
  pub flagged : List ℕ
  pub pages : PagesRebuilt old (map is_some marks) paged
  pub flag : OnlyLong (root_of old) BITMAP_FLAG paged flagged
  pub valid : long flagged (root_of old) BITMAP_FLAG ≡ BITMAP_VALID
  pub settled : OnlyLong (root_of old) CHECKSUM flagged new
  pub sum : block_sum new (root_of old) ≡ 0
