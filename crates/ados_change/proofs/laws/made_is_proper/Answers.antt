use Rattle.ados_change.proofs.ProperChanges.{made_is_proper}
use Rattle.ados_change.proofs.laws.made_is_proper.Goals as goal

pub returns : goal.returns
returns c = made_is_proper
