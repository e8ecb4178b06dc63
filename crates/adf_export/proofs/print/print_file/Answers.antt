use Rattle.adf_export.proofs.Leading.{printed_fault}
use Rattle.adf_export.proofs.print.print_file.Goals as goal

pub returns-in-Err-clause-fault : goal.returns-in-Err-clause-fault
returns-in-Err-clause-fault g c = λ t s. printed_fault t c.args.path.now (g.W.Write.contents c.args.writer.now) c.in-Err.fault (c.in-Err.ensures.fault t s)
