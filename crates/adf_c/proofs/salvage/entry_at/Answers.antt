use Rattle.adf_c.proofs.Saving.{told_at}
use Rattle.adf_c.proofs.salvage.entry_at.Goals as goal

pub returns-clause-told : goal.returns-clause-told
returns-clause-told c = told_at c.entry_in-outcome.result _ _ _ _ c.in-Some.ensures.value c.deref.ensures c.entry_in-outcome.ensures
