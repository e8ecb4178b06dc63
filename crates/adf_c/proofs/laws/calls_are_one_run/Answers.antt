use Rattle.adf_c.proofs.History.{calls_are_one_run}
use Rattle.adf_c.proofs.laws.calls_are_one_run.Goals as goal

pub returns : goal.returns
returns c = calls_are_one_run
