use Rattle.std.proofs.Common.{ap, ◌∙◌}
use Rattle.adf_c.proofs.Coming.{copies}
use Rattle.adf_c.specs.declared.desk.Desk.{Desk}
use Rattle.adf_c.proofs.image.copy_image.Goals as goal

pub returns-clause-copies : goal.returns-clause-copies
returns-clause-copies c = copies c.copy_bytes-outcome.result _ _ _ _ _ c.in-Some.ensures.value
    (c.as_bytes.ensures ∙ c.image.ensures.same ∙ c.volume.ensures.image ∙ ap (λ (d : Desk). d.handler.image) c.deref.ensures) c.copy_bytes-outcome.ensures
