use Rattle.ados_run.proofs.Following.{histories_follow_trees}
use Rattle.ados_run.proofs.laws.histories_follow_trees.Goals as goal

pub returns : goal.returns
returns c = histories_follow_trees
