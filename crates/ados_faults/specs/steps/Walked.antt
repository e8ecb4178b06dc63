-- The progress of a walk past the faults of an image.
use Rattle.std.specs.Prelude.{◌≡◌, ◌≢◌, ℕ, ◌+◌, ◌*◌, ◌-◌, ◌/◌, ◌<◌, ◌≤◌, ◌⊎◌, List, length, All, Bool, Some, slice_get}
use Rattle.adf_block.specs.declared.layout.TheConstants.{BOOT_BLOCKS, FIRST_PAGE, PAGE_BITS}
use Rattle.adf_block.specs.Image.{block_count, long}
use Rattle.adf_block.specs.Whole.{HasFreeBit, IsImage}
use Rattle.ados_model.specs.declared.role.Role.{Role}
use Rattle.ados_model.specs.declared.fault.FaultKind.TheVariants.{BadPointer, BlockUsedTwice}
use Rattle.ados_model.specs.Faults.{InImage, IsPlace, IsUsedTwice, LeadsInside, Reached, root_of}
use Rattle.ados_model.specs.Rebuilt.{HasValidBitmap}
use Rattle.ados_check.specs.declared.mark.Mark.{Mark}
use Rattle.ados_check.specs.Marks.{mark_at}
use Rattle.ados_faults.specs.Listed.{IsNamedAs, Marks, root_mark}
use Rattle.ados_faults.specs.declared.walk.Step.{Step}
use Rattle.ados_faults.specs.declared.roles.Taken.{Taken}
use Rattle.ados_faults.specs.declared.walk.Walk.{Walk}
use Rattle.ados_faults.specs.steps.Noted.{AreNoted, IsNoted, cell_of}
use Rattle.ados_faults.specs.steps.Roles.{AreBacked, AreCoveredBy, IsListed, root_step}

-- the bitmap is valid, and a bitmap block inside the image marks the block free
pub record IsMarkedFree (image : List ℕ) (block : ℕ) : Type 0 where
  pub valid : HasValidBitmap image
  pub page : InImage image (long image (root_of image) (FIRST_PAGE + (block - BOOT_BLOCKS) / PAGE_BITS))
  pub free : HasFreeBit image block

-- the block is reached in this role
pub record IsStep (image : List ℕ) (step : Step) : Type 0 where
  pub inside : InImage image step.block
  pub reached : Reached image step.block step.role

-- the place in a mark names the block in its role, unless the block is the root
abbrev pub IsMet : List ℕ → ℕ → Mark → Type 0
IsMet image block mark = (block ≡ root_of image) ⊎ IsNamedAs image block mark

-- each noted fault is shown, marks have places that name their blocks, each step is reached, the root is one, and the
-- roles that were taken are those of steps
pub record IsWalked (image : List ℕ) (cells : List Bool) (marks : Marks) (roles : List Taken) (steps : List Step) : Type 0 where
  pub whole : IsImage image
  pub noted : AreNoted image cells
  pub size : length marks ≡ block_count image
  pub root : mark_at marks (root_of image) ≡ Some root_mark
  pub met : (block : ℕ) (mark : Mark) → mark_at marks block ≡ Some mark → IsMet image block mark
  pub marked : (block : ℕ) (mark : Mark) → mark_at marks block ≡ Some mark → Reached image block mark.role
  pub reached : All (IsStep image) steps
  pub first : IsListed steps (root_step (root_of image))
  pub role_size : length roles ≡ 5 * block_count image
  pub backed : AreBacked roles steps

-- the notes, the marks and the steps stay as they were, and others may have come
pub record AreKept (walk later : Walk) : Type 0 where
  pub notes_stay : (cell : ℕ) → IsNoted walk.notes.cells.items cell → IsNoted later.notes.cells.items cell
  pub marks_stay : (block : ℕ) (mark : Mark) → mark_at walk.marks.items block ≡ Some mark → mark_at later.marks.items block ≡ Some mark
  pub longer : length walk.steps.items ≤ length later.steps.items
  pub steps_stay : (k : ℕ) → k < length walk.steps.items → slice_get later.steps.items k ≡ slice_get walk.steps.items k

-- a block that a place names is marked. If the mark has another place, the block is noted
pub record IsMarkedBy (walk : Walk) (block holder i : ℕ) : Type 0 where
  pub first : Mark
  pub marked : mark_at walk.marks.items block ≡ Some first
  pub twice : (first.holder ≢ holder) ⊎ (first.long ≢ i) → IsNoted walk.notes.cells.items (cell_of BlockUsedTwice block)

-- a block that a place names is marked, and steps cover the role by this place
pub record IsMetBy (walk : Walk) (block holder i : ℕ) (next : Role) : Type 0 where
  pub placed : IsMarkedBy walk block holder i
  pub covered : AreCoveredBy walk.steps.items block next

-- if this long of the step is a place, the block that it names was met, or it is noted that it names none of the image
pub record IsPassed (image : List ℕ) (walk : Walk) (step : Step) (i : ℕ) : Type 0 where
  pub met : (next : Role) → IsPlace image step.block step.role i next → LeadsInside image step.block i → IsMetBy walk (long image step.block i) step.block i next
  pub outside : (next : Role) → IsPlace image step.block step.role i next → ¬ LeadsInside image step.block i → IsNoted walk.notes.cells.items (cell_of BadPointer step.block)

-- each block that a place of the step names was met
pub record IsVisited (image : List ℕ) (walk : Walk) (step : Step) : Type 0 where
  pub passed : (i : ℕ) → IsPassed image walk step i

-- the first steps were visited, as many as a number says
pub record AreVisited (image : List ℕ) (walk : Walk) (n : ℕ) : Type 0 where
  pub visited : (k : ℕ) (step : Step) → k < n → slice_get walk.steps.items k ≡ Some step → IsVisited image walk step

-- each block that two places name is noted
pub record AreTwiceNoted (image : List ℕ) (cells : List Bool) : Type 0 where
  pub noted : (block : ℕ) → IsUsedTwice image block → IsNoted cells (cell_of BlockUsedTwice block)

-- each block with a place that names no block of the image is noted
pub record AreOutsideNoted (image : List ℕ) (cells : List Bool) : Type 0 where
  pub noted : (block i : ℕ) (role next : Role) → Reached image block role → IsPlace image block role i next → ¬ LeadsInside image block i → IsNoted cells (cell_of BadPointer block)
