use Rattle.adf_c.proofs.Saving.{at_place}
use Rattle.adf_c.specs.Salvaging.{HasOwnName}
use Rattle.adf_c.proofs.salvage.name_at.Goals as goal

pub returns-clause-told : goal.returns-clause-told
returns-clause-told c = at_place c.name_in-outcome.result (λ name. HasOwnName name.items) _ _ _ _ c.in-Some.ensures.value c.deref.ensures c.name_in-outcome.ensures
