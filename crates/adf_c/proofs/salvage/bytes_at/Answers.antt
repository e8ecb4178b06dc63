use Rattle.adf_c.proofs.Saving.{at_place}
use Rattle.adf_c.specs.Salvaging.{HasFileBytes}
use Rattle.adf_c.proofs.salvage.bytes_at.Goals as goal

pub returns-clause-told : goal.returns-clause-told
returns-clause-told c = at_place c.bytes_in-outcome.result (λ bytes. HasFileBytes c.args.place bytes.items) _ _ _ _ c.in-Some.ensures.value c.deref.ensures c.bytes_in-outcome.ensures
