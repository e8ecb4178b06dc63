use Rattle.adf_where.proofs.FaultsThere.{faults_there, shown_there}
use Rattle.adf_where.proofs.faulty.shows_fault.Goals as goal

pub returns : goal.returns
returns c = λ image found.
    let block = c.args.block in
    shown_there image block c.faults_at.result.now c.is_empty.result (faults_there image block c.args.faults.now c.faults_at.result.now found c.faults_at.ensures) c.is_empty.ensures
