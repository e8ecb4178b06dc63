use Rattle.ados_model.proofs.NoFaults.{faults_have_no_tree}
use Rattle.ados_model.proofs.laws.faults_have_no_tree.Goals as goal

pub returns : goal.returns
returns c = faults_have_no_tree
