use Rattle.ados_run.proofs.SameRuns.{same_steps_same_bytes}
use Rattle.ados_run.proofs.laws.same_steps_same_bytes.Goals as goal

pub returns : goal.returns
returns c = same_steps_same_bytes
