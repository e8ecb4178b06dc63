use Rattle.std.proofs.Common.{ap, ◌∙◌}
use Rattle.adf_c.proofs.Saving.{maps}
use Rattle.adf_c.specs.declared.desk.Desk.{Desk}
use Rattle.adf_c.proofs.map.map.Goals as goal

pub returns-clause-maps : goal.returns-clause-maps
returns-clause-maps c = maps c.owners_in-outcome.result _ _ _ _ c.in-Some.ensures.value (c.volume.ensures.image ∙ ap (λ (d : Desk). d.handler.image) c.deref.ensures) c.owners_in-outcome.ensures
