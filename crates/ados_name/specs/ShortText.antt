-- A text of bounded length in an array.
use Rattle.std.specs.Prelude.{◌≡◌, ℕ, ◌-◌, ◌<◌, ◌≤◌, List, ◌++◌, length, take, replicate, All}

-- the cells hold a text of this length, and the cells after it are 0
pub record HoldsText (capacity len : ℕ) (cells : List ℕ) : Type 0 where
  pub fits : len ≤ capacity
  pub front : len ≡ length (take len cells)
  pub back : cells ≡ take len cells ++ replicate (capacity - len) 0
  pub bytes : All (λ c. c < 256) (take len cells)
