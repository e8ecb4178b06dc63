-- The blocks that headers name, while they are gathered.
use Rattle.std.specs.Prelude.{◌≡◌, ℕ, ◌<◌, ◌⊎◌, ◌↔◌, Bool, List, length, Contains}
use Rattle.adf_block.specs.Image.{block_count}
use Rattle.adf_block.specs.Fields.{parent_key}
use Rattle.ados_census.specs.steps.Marks.{IsMarked}
use Rattle.ados_model.specs.Faults.{InImage}

-- there is a mark for each block of the image, and each marked block names a file before this one as its own
pub record ArePassed (image : List ℕ) (file : ℕ) (passed : List Bool) : Type 0 where
  pub size : length passed ≡ block_count image
  pub before : (block : ℕ) → IsMarked passed block → parent_key image block < file

-- exactly the blocks of the volume with a property were added
abbrev pub GrowsBy : List ℕ → (ℕ → Type 0) → List ℕ → List ℕ → Type 0
GrowsBy image P old new = (block : ℕ) → Contains new block ↔ (Contains old block ⊎ (InImage image block × P block))
