use Rattle.ados_model.proofs.OneTree.{one_tree}
use Rattle.ados_model.proofs.laws.one_tree.Goals as goal

pub returns : goal.returns
returns c = one_tree
