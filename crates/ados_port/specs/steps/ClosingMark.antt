-- The visible state of an end of the closing mark.
use Rattle.std.specs.Prelude.{ℕ, Bool}

-- which mark, and whether it is known to be set
pub record CloseView : Type 0 where
  pub mark : ℕ
  pub knows : Bool
