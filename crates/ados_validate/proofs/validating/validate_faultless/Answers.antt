use Rattle.ados_validate.proofs.Common.{List, ℕ, sym, subst, IsValidated}
use Rattle.ados_validate.proofs.PageFaults.{mendable_pages}
use Rattle.ados_validate.proofs.Passed.{passed}
use Rattle.ados_validate.proofs.validating.validate_faultless.Goals as goal

pub of-requires : goal.of-requires
of-requires c = mendable_pages c.args.image (λ kind block shown. absurd (c.requires.none kind block shown))

pub returns-in_err-new : goal.returns-in_err-new
returns-in_err-new c = passed c.args.image c.args.force c.from_residual.result c.in_err-new.field-0.0 c.from_residual.ensures (c.in_err-new.ensures c.args.force)

pub answer_for-requires : goal.answer_for-requires
answer_for-requires c = subst (λ (old : List ℕ). IsValidated old c.in_ok-new.new) (sym c.in-Ok.ensures) (c.in_ok-new.ensures c.args.force)
