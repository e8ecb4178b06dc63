use Rattle.ados_run.proofs.SameRuns.{same_answers_same_handlers}
use Rattle.ados_run.proofs.laws.same_answers_same_handlers.Goals as goal

pub returns : goal.returns
returns c = same_answers_same_handlers
