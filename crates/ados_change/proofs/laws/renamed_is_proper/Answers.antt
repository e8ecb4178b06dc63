use Rattle.ados_change.proofs.ProperChanges.{renamed_is_proper}
use Rattle.ados_change.proofs.laws.renamed_is_proper.Goals as goal

pub returns : goal.returns
returns c = renamed_is_proper
