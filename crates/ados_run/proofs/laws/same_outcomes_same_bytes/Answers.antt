use Rattle.ados_run.proofs.SameOutcomes.{same_outcomes_same_bytes}
use Rattle.ados_run.proofs.laws.same_outcomes_same_bytes.Goals as goal

pub returns : goal.returns
returns c = same_outcomes_same_bytes
