-- The visible state of a server with the history of what it served.
use Rattle.std.specs.Prelude.{ℕ, Bool, List}
use Rattle.ados_port.specs.History.{Serving}

-- the opening server, the current server, the packets served in between, which mark, and whether the mark is known to
-- be set
pub record DeskView (S Q M A : Type 0) : Type 0 where
  pub opening : S
  pub server : S
  pub served : List (Serving Q M A)
  pub mark : ℕ
  pub knows : Bool
