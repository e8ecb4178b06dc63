-- The results of a function for many positions.
use Rattle.std.specs.Prelude.{◌≡◌, ℕ, ◌+◌, ◌<◌, List, length, slice_index_or}
use denote.Param.Members.{Shared}
use Rattle.std.specs.Fn.{FnReturns}

-- each of these is a possible result of the function for its position; the positions start at `start`
abbrev pub GivesFrom : {F R : Type 0} → Shared F (ℕ × Unit {0}) R → F → ℕ → ℕ → List R → Type 0
GivesFrom {R = R} g f start count results =
    (length results ≡ count) × ((i : ℕ) (d : R) → i < count → FnReturns g f (start + i, tt) (slice_index_or results i d))
