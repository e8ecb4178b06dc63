use Rattle.std.proofs.Common.{ap, ◌∙◌}
use Rattle.adf_c.proofs.Changing.{tells}
use Rattle.adf_c.specs.declared.desk.Desk.{Desk}
use Rattle.adf_c.proofs.changed.copy_changed.Goals as goal

pub returns-clause-copies : goal.returns-clause-copies
returns-clause-copies c = tells c.take_over-outcome.result _ _ _ _ _ _ _ c.in-Some.ensures.value
    (c.image.ensures.same ∙ c.volume.ensures.image ∙ ap (λ (d : Desk). d.handler.image) c.deref.ensures) c.take_over-outcome.ensures
