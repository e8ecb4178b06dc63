-- The image with a new bitmap.
use Rattle.std.specs.Prelude.{ℕ, ◌+◌, ◌-◌, List, None, not, ◌&&◌, if◌then◌else◌}
use Rattle.adf_block.specs.declared.layout.TheConstants.{BOOT_BLOCKS}
use Rattle.adf_block.specs.Frame.{SameBut}
use Rattle.adf_block.specs.Image.{block_count, has_free_bit, total}
use Rattle.adf_block.specs.Whole.{HasFreeBit}
use Rattle.ados_model.specs.declared.role.Role.{Role}
use Rattle.ados_model.specs.Faults.{InImage, Reached}
use Rattle.ados_model.specs.Accepted.{HasNoLost, ShowsNoFault}
use Rattle.ados_model.specs.Rebuilt.{HasValidBitmap, IsOfBitmap}
use Rattle.ados_model.specs.Stands.{Stands}
use Rattle.ados_model.specs.Tree.{Tree}
use Rattle.ados_validate.specs.Mendable.{ShowsOnlyMendable}

-- the tree without its lost blocks
abbrev pub without_lost : Tree → Tree
without_lost t = record t { lost = λ block. None }

-- the number of blocks that are marked free in this image, and not in the other
abbrev pub free_only_in : List ℕ → List ℕ → ℕ
free_only_in image other =
    total (λ k. if has_free_bit image (k + BOOT_BLOCKS) && not (has_free_bit other (k + BOOT_BLOCKS)) then 1 else 0) (block_count image - BOOT_BLOCKS)

-- the old image shows only faults that a new bitmap mends. The new one differs from it at most in its bitmap, which
-- marks exactly the reached blocks used. It is accepted, and has no lost blocks. It represents each tree that the old
-- one represents, without its lost blocks
pub record IsValidated (old new : List ℕ) : Type 0 where
  pub mendable : ShowsOnlyMendable old
  pub rest : SameBut (IsOfBitmap old) old new
  pub free : (block : ℕ) → InImage old block → HasFreeBit new block → (role : Role) → ¬ Reached old block role
  pub in_use : (block : ℕ) → InImage old block → ¬ HasFreeBit new block → (role : Role) × Reached old block role
  pub no_fault : ShowsNoFault new
  pub valid : HasValidBitmap new
  pub tree : (t : Tree) × Stands new t × HasNoLost t
  pub same_tree : (t : Tree) → Stands old t → Stands new (without_lost t)
