-- The answer of `validate`.
use Rattle.std.specs.Prelude.{◌≡◌, ⊤, ℕ, Bool, false, List, Result, MatchResult}
use Rattle.ados_model.specs.Faults.{Shows}
use Rattle.ados_validate.specs.declared.answer.NotValidated.{NotValidated}
use Rattle.ados_validate.specs.declared.answer.NotValidated.TheVariants.{Asks, Memory, OtherFault}
use Rattle.ados_validate.specs.declared.answer.Validated.{Validated}
use Rattle.ados_validate.specs.Mendable.{IsMendable}
use Rattle.ados_validate.specs.Validated.{IsValidated, free_only_in}
use Rattle.ados_validate.specs.Cautions.{HasNoCaution, IsCaution}

-- the new image with the numbers of blocks whose bits changed; unless forced, nothing is lost with the old bitmap
pub record IsNew (old : List ℕ) (force : Bool) (answer : Validated) : Type 0 where
  pub validated : IsValidated old answer.image
  pub freed : answer.were_free ≡ free_only_in old answer.image
  pub used : answer.were_used ≡ free_only_in answer.image old
  pub careful : force ≡ false → HasNoCaution old answer.image

-- why there is no new image
abbrev pub IsReason : List ℕ → Bool → NotValidated → Type 0
IsReason old force (OtherFault fault) = Shows old fault.kind fault.block × ¬ IsMendable old fault.kind fault.block
IsReason old force (Asks caution) = (force ≡ false) × ((new : List ℕ) × IsValidated old new × IsCaution old new caution)
IsReason old force Memory = ⊤

abbrev pub Validates : List ℕ → Bool → Result Validated NotValidated → Type 0
Validates old force answer = MatchResult answer (IsNew old force) (IsReason old force)
