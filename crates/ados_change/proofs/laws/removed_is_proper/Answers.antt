use Rattle.ados_change.proofs.ProperChanges.{removed_is_proper}
use Rattle.ados_change.proofs.laws.removed_is_proper.Goals as goal

pub returns : goal.returns
returns c = removed_is_proper
