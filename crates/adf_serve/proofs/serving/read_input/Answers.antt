use Rattle.adf_serve.proofs.Printing.{refused_unread, size_unread}
use Rattle.adf_serve.proofs.Clients.{unread_result}
use Rattle.adf_serve.proofs.serving.read_input.Goals as goal

pub returns-in_err-volume-clause-fault : goal.returns-in_err-volume-clause-fault
returns-in_err-volume-clause-fault g c = unread_result _ _ (refused_unread _ _ c.in_err-volume.ensures) c.from_residual-in_err-volume.ensures.1

pub returns-in_err-read_scripts-clause-fault : goal.returns-in_err-read_scripts-clause-fault
returns-in_err-read_scripts-clause-fault g c = unread_result _ _ (size_unread _ c.in_err-read_scripts.ensures.fault) c.from_residual-in_err-read_scripts.ensures.1
