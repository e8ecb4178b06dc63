use Rattle.std.proofs.Common.{Err, sym, ap, ◌∙◌}
use Rattle.adf_import.proofs.Common.{DosError}
use Rattle.ados_model.specs.declared.dos_error.WalkFault.{WalkFault}
use Rattle.std.proofs.Common.{ℕ, Result}
use Rattle.ados_model.specs.Resolved.{walk_result}
use Rattle.adf_import.proofs.paths.object_at.Goals as goal

pub returns-in-Err-clause-object : goal.returns-in-Err-clause-object
returns-in-Err-clause-object c = λ t s.
    let stops = c.in-Err.ensures.leads t s in
    ap (λ (error : DosError). Err error) stops.error ∙ sym (ap (λ (r : Result ℕ WalkFault). walk_result r) stops.fails.walked)
