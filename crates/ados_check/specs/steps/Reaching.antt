-- The progress of a walk: the marked blocks, and the places that are left.
use Rattle.std.specs.Prelude.{◌≡◌, ◌≢◌, ℕ, ◌+◌, ◌*◌, ◌≤◌, ◌⊎◌, List, length, sum_by, Contains, AllPairs, Option, Some, is_some, if◌then◌else◌}
use Rattle.adf_block.specs.Image.{block_count, long}
use Rattle.ados_model.specs.declared.role.Role.{Role}
use Rattle.ados_model.specs.declared.role.Role.TheVariants.{Root}
use Rattle.ados_model.specs.Faults.{IsPlace, LeadsInside, Reached, root_of}
use Rattle.ados_check.specs.declared.mark.Mark.{Mark}
use Rattle.ados_check.specs.Marks.{mark_at, IsMarkedFor, IsSound}

-- the mark of a block with a role, which long i of a holder names
abbrev pub mark_of : Role → ℕ → ℕ → Mark
mark_of role holder i = record { role = role; holder = holder; long = i }

-- the mark of the root
abbrev pub root_mark : Mark
root_mark = mark_of Root 0 0

-- the long in a mark is a place that names the block, and it was visited
pub record IsNoted (image : List ℕ) (marks : List (Option Mark)) (left : ℕ → ℕ → Type 0) (block : ℕ) (mark : Mark) : Type 0 where
  pub holder : Mark
  pub held : mark_at marks mark.holder ≡ Some holder
  pub place : IsPlace image mark.holder holder.role mark.long mark.role
  pub names : long image mark.holder mark.long ≡ block
  pub passed : ¬ left mark.holder mark.long

-- each visited place of a marked block names a block inside the image
abbrev pub PassedAreInside : List ℕ → List (Option Mark) → (ℕ → ℕ → Type 0) → Type 0
PassedAreInside image marks left =
    (block i : ℕ) (mark : Mark) (next : Role) → mark_at marks block ≡ Some mark → IsPlace image block mark.role i next → ¬ left block i
    → LeadsInside image block i

-- each visited place of a marked block names a block that is marked with it
abbrev pub PassedAreMarked : List ℕ → List (Option Mark) → (ℕ → ℕ → Type 0) → Type 0
PassedAreMarked image marks left =
    (block i : ℕ) (mark : Mark) (next : Role) → mark_at marks block ≡ Some mark → IsPlace image block mark.role i next → ¬ left block i
    → IsMarkedFor marks (long image block i) next block i

-- the marked blocks are reached and sound, and each of their visited places names a block that is marked with it
pub record AreReachedBut (image : List ℕ) (marks : List (Option Mark)) (left : ℕ → ℕ → Type 0) : Type 0 where
  pub size : length marks ≡ block_count image
  pub root : mark_at marks (root_of image) ≡ Some root_mark
  pub reached : (block : ℕ) (mark : Mark) → mark_at marks block ≡ Some mark → Reached image block mark.role
  pub sound : (block : ℕ) (mark : Mark) → mark_at marks block ≡ Some mark → IsSound image block mark.role
  pub noted : (block : ℕ) (mark : Mark) → mark_at marks block ≡ Some mark → (block ≡ root_of image) ⊎ IsNoted image marks left block mark
  pub inside : PassedAreInside image marks left
  pub marked : PassedAreMarked image marks left

-- the number of blocks without a mark
abbrev pub unmarked : List (Option Mark) → ℕ
unmarked marks = sum_by (λ mark. if is_some mark then 0 else 1) marks

-- a bound on the remaining steps: each block without a mark may still become pending and be visited
abbrev pub work : List (Option Mark) → List ℕ → ℕ
work marks pending = 2 * unmarked marks + length pending

-- the pending blocks are marked and distinct, and there is room for all blocks without a mark
pub record ArePending (image : List ℕ) (marks : List (Option Mark)) (pending : List ℕ) : Type 0 where
  pub marked : (block : ℕ) → Contains pending block → (mark : Mark) × (mark_at marks block ≡ Some mark)
  pub once : AllPairs (λ block other. block ≢ other) pending
  pub room : length pending + unmarked marks ≤ block_count image

-- between two blocks: the places of the pending blocks are left
pub record IsBetween (image : List ℕ) (marks : List (Option Mark)) (pending : List ℕ) : Type 0 where
  pub but : AreReachedBut image marks (λ block i. Contains pending block)
  pub waiting : ArePending image marks pending

-- while a block is visited: its places from a long on are left, and those of the pending blocks
abbrev pub IsLeft : List ℕ → ℕ → ℕ → ℕ → ℕ → Type 0
IsLeft pending hand from block i = Contains pending block ⊎ ((block ≡ hand) × (from ≤ i))

-- a block being visited: it is marked with its role, and its places below a long are done
pub record IsInHand (image : List ℕ) (marks : List (Option Mark)) (pending : List ℕ) (hand : ℕ) (role : Role) (from : ℕ) : Type 0 where
  pub mark : Mark
  pub held : mark_at marks hand ≡ Some mark
  pub of_role : mark.role ≡ role
  pub beside : ¬ Contains pending hand
  pub but : AreReachedBut image marks (IsLeft pending hand from)
  pub waiting : ArePending image marks pending
