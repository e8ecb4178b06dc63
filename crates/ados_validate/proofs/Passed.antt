-- A reason that is passed on.
use Rattle.std.proofs.Common.{◌≡◌, ℕ, Bool, List, Result, Ok, Err, IsErr, IsErrAnd, sym, subst}
use Rattle.ados_validate.specs.Answer.{IsReason, Validates}
use Rattle.ados_validate.specs.declared.answer.NotValidated.{NotValidated}
use Rattle.ados_validate.specs.declared.answer.Validated.{Validated}

pub passed : (old : List ℕ) (force : Bool) (r : Result Validated NotValidated) (why : NotValidated) → IsErr r × IsErrAnd r (λ told. told ≡ why) → IsReason old force why → Validates old force r
passed old force (Ok v) why h k = absurd h.1
passed old force (Err told) why h k = subst (IsReason old force) (sym h.1) k
