-- The progress of a walk over the reached blocks of an image, each once for each form of its roles.
use Rattle.std.specs.Prelude.{◌≡◌, ℕ, ◌+◌, ◌*◌, ◌<◌, ◌≤◌, Bool, List, length, All, Some, slice_get}
use Rattle.adf_block.specs.Image.{block_count, long}
use Rattle.adf_block.specs.Whole.{IsImage}
use Rattle.ados_model.specs.declared.role.Role.{Role}
use Rattle.ados_model.specs.declared.role.Role.TheVariants.{Root, Page, Entry, Data, Extension}
use Rattle.ados_model.specs.Faults.{InImage, IsPlace, LeadsInside, Reached}
use Rattle.ados_census.specs.declared.reached.Step.{Step}
use Rattle.ados_census.specs.declared.reached.Walk.{Walk}
use Rattle.ados_census.specs.steps.Marks.{IsMarked, unmarked}

-- the form of a role: a block has the same places in all roles of one form
abbrev pub form : Role → ℕ
form Root = 0
form (Entry dir s) = 1
form (Extension file) = 2
form (Data file) = 3
form Page = 3

-- the cell of a block in a role: a block has one for each form
abbrev pub cell : ℕ → Role → ℕ
cell block role = 4 * block + form role

-- the cell is that of a reached block in its role
pub record IsOfReached (image : List ℕ) (c : ℕ) : Type 0 where
  pub block : ℕ
  pub role : Role
  pub reached : Reached image block role
  pub is : cell block role ≡ c

-- for each block and each form, whether the block is reached in a role of this form
pub record AreCells (image : List ℕ) (cells : List Bool) : Type 0 where
  pub size : length cells ≡ 4 * block_count image
  pub all : (block : ℕ) (role : Role) → Reached image block role → IsMarked cells (cell block role)
  pub only : (c : ℕ) → IsMarked cells c → IsOfReached image c

-- the block is reached in a role of this form
pub record IsReachedIn (image : List ℕ) (block number : ℕ) : Type 0 where
  pub role : Role
  pub of_form : form role ≡ number
  pub reached : Reached image block role

-- the block is reached in this role
pub record IsStep (image : List ℕ) (step : Step) : Type 0 where
  pub inside : InImage image step.block
  pub reached : Reached image step.block step.role

-- the cell is that of a step in the list
pub record IsOfStep (steps : List Step) (c : ℕ) : Type 0 where
  pub k : ℕ
  pub step : Step
  pub at : slice_get steps k ≡ Some step
  pub is : cell step.block step.role ≡ c

-- there is a cell for each block and each form, each step is reached, and each marked cell is that of a step
pub record AreWalked (image : List ℕ) (cells : List Bool) (steps : List Step) : Type 0 where
  pub whole : IsImage image
  pub size : length cells ≡ 4 * block_count image
  pub reached : All (IsStep image) steps
  pub listed : (c : ℕ) → IsMarked cells c → IsOfStep steps c

-- marks and steps stay as they were, and each step that came has marked a cell
pub record AreKept (walk later : Walk) : Type 0 where
  pub marks_stay : (c : ℕ) → IsMarked walk.cells.items c → IsMarked later.cells.items c
  pub longer : length walk.steps.items ≤ length later.steps.items
  pub steps_stay : (k : ℕ) → k < length walk.steps.items → slice_get later.steps.items k ≡ slice_get walk.steps.items k
  pub room : length later.steps.items + unmarked later.cells.items ≤ length walk.steps.items + unmarked walk.cells.items

-- if this long of the step is a place, the block that it names is marked in its role
abbrev pub IsPassed : List ℕ → List Bool → Step → ℕ → Type 0
IsPassed image cells step i = (next : Role) → IsPlace image step.block step.role i next → LeadsInside image step.block i → IsMarked cells (cell (long image step.block i) next)

-- the first steps were visited, as many as a number says: each block that one of their places names is marked
abbrev pub AreVisited : List ℕ → List Bool → List Step → ℕ → Type 0
AreVisited image cells steps n = (k : ℕ) (step : Step) → k < n → slice_get steps k ≡ Some step → (i : ℕ) → IsPassed image cells step i
