-- How a call ends: it is done, or refused.
use Rattle.std.specs.Prelude.{◌≡◌, ◌⊎◌, ℤ, pos, Result, MatchResult}
use Rattle.adf_c.specs.Status.{refusal_number}
use Rattle.adf_c.specs.declared.values.refusal.Refusal.{Refusal}

-- a call succeeds, or is refused for one of these reasons
abbrev pub Comes : Type 0 → (Refusal → Type 0) → Result (Unit {0}) Refusal → Type 0
Comes done refused outcome = MatchResult outcome (λ _. done) refused

-- the same by the status: 0 for success, else the number of the refusal
abbrev pub ComesTo : Type 0 → (Refusal → Type 0) → ℤ → Type 0
ComesTo done refused status = ((status ≡ pos 0) × done) ⊎ ((refusal : Refusal) × (status ≡ pos (refusal_number refusal)) × refused refusal)
