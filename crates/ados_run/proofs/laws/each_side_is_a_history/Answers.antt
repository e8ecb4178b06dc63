use Rattle.ados_run.proofs.Following.{each_side_is_a_history}
use Rattle.ados_run.proofs.laws.each_side_is_a_history.Goals as goal

pub returns : goal.returns
returns c = each_side_is_a_history
