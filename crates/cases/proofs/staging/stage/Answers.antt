use Rattle.std.proofs.Common.{sym, subst}
use Rattle.ados_port.specs.Ends.{AreEnds}
use Rattle.cases.proofs.staging.stage.Goals as goal

pub put_and_gather-number-requires : goal.put_and_gather-number-requires
put_and_gather-number-requires g c = subst (λ l. AreEnds c.run-handler.result.handler l) (sym c.in-Ok.ensures.ends) c.run-handler.ensures
