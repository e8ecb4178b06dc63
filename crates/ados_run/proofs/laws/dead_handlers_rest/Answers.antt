use Rattle.ados_run.proofs.Resting.{dead_handlers_rest}
use Rattle.ados_run.proofs.laws.dead_handlers_rest.Goals as goal

pub returns : goal.returns
returns c = dead_handlers_rest
