-- The effect of a new lock.
use Rattle.std.specs.Prelude.{◌≡◌, ◌⊎◌, ℕ, pos, Bool, false}
use Rattle.ados_model.specs.declared.dos_error.DosError.TheVariants.{NoFreeStore}
use Rattle.ados_model.specs.Packet.{error_number}
use Rattle.ados_model.specs.declared.results.Results.{Results}
use Rattle.ados_model.specs.declared.answer.Body.TheVariants.{Empty}
use Rattle.ados_model.specs.Session.{Session, IsFreeNumber, with_lock}

-- there is one more lock on the object, and the first result is its number; or there was no place for it, the error is
-- `NoFreeStore`, and the locks are the same
abbrev pub BringsLock : Bool → Session → ℕ → Bool → Session → Results → Type 0
BringsLock place s key exclusive new results =
    ((number : ℕ) × IsFreeNumber s.locks number × (new ≡ with_lock number key exclusive s)
    × (results ≡ record { res1 = pos number; res2 = pos 0; body = Empty }))
    ⊎ ((place ≡ false) × (new ≡ s) × (results ≡ record { res1 = pos 0; res2 = pos (error_number NoFreeStore); body = Empty }))
