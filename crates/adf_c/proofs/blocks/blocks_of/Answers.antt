use Rattle.adf_c.proofs.Saving.{tells}
use Rattle.adf_c.proofs.blocks.blocks_of.Goals as goal

pub returns-clause-told : goal.returns-clause-told
returns-clause-told c = tells c.blocks_in-outcome.result _ _ _ _ c.in-Some.ensures.value c.deref.ensures c.blocks_in-outcome.ensures
