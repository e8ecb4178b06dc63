use Rattle.adf_serve.proofs.Clients.{unread_result}
use Rattle.adf_serve.proofs.Printing.{refused_unread}
use Rattle.adf_serve.proofs.boot.accept_copy.Goals as goal

pub returns-in_err-accept-in-Ok-clause-fault : goal.returns-in_err-accept-in-Ok-clause-fault
returns-in_err-accept-in-Ok-clause-fault c = unread_result _ _ (refused_unread _ _ c.in_err-accept-in-Ok.ensures) c.from_residual-in_err-accept-in-Ok.ensures.1
