use Rattle.adf_script.proofs.OneRun.{lines_are_one_run}
use Rattle.adf_script.proofs.laws.lines_are_one_run.Goals as goal

pub returns : goal.returns
returns g c = lines_are_one_run g.S.Server.gives g.S.Server.has_died
