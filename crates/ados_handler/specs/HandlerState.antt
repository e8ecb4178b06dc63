-- How contracts see a handler.
use Rattle.std.specs.Prelude.{ℕ, Bool, false, List}
use Rattle.ados_model.specs.Session.{Session}

-- whether there is a place, memory and a number, for one more lock, and for one more handle
pub record Places : Type 0 where
  pub for_lock : Bool
  pub for_handle : Bool

-- no place for either
abbrev pub no_places : Places
no_places = record { for_lock = false; for_handle = false }

-- the image of its volume, whether `check` rebuilt the bitmap, the holds, and the places for more holds
pub record HandlerState : Type 0 where
  pub image : List ℕ
  pub was_validated : Bool
  pub session : Session
  pub places : Places
