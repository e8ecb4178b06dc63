use Rattle.adf_script.proofs.Common.{on_ok_weaker}
use Rattle.adf_script.proofs.runner.tell_refused.Goals as goal

pub returns-in-Closed-clause-closed : goal.returns-in-Closed-clause-closed
returns-in-Closed-clause-closed g c = on_ok_weaker c.write_closed.result (λ text. (_, c.in-Closed.is, text)) c.write_closed.ensures.text
