use Rattle.ados_run.proofs.Following.{lists_follow_trees}
use Rattle.ados_run.proofs.laws.lists_follow_trees.Goals as goal

pub returns : goal.returns
returns c = lists_follow_trees
