use Rattle.std.proofs.Common.{sym, subst}
use Rattle.ados_run.proofs.Common.{AreEnds, IsNew, AreUnused}
use Rattle.ados_run.proofs.Runs.{opening_handler}
use Rattle.ados_run.proofs.serve.open_clients.Goals as goal

pub returns-in_ok-assign-in-Ok-clause-handler : goal.returns-in_ok-assign-in-Ok-clause-handler
returns-in_ok-assign-in-Ok-clause-handler g c =
    let is = opening_handler c.new-server.result c.args.volume.image c.args.volume.was_validated c.new-server.ensures.image c.new-server.ensures.validated c.new-server.ensures.session c.new-server.ensures.places in
    subst (λ h. IsNew h c.in-Ok.handler) is c.in-Ok.ensures.0

pub returns-in_ok-assign-in-Ok-clause-ends : goal.returns-in_ok-assign-in-Ok-clause-ends
returns-in_ok-assign-in-Ok-clause-ends g c = subst (λ l. AreEnds c.in-Ok.handler l) (sym c.in_ok-assign-in-Ok.ensures.ends) c.in-Ok.ensures.2

pub returns-in_ok-assign-in-Ok-clause-unused : goal.returns-in_ok-assign-in-Ok-clause-unused
returns-in_ok-assign-in-Ok-clause-unused g c =
    subst (λ l. AreUnused l) (sym c.in_ok-assign-in-Ok.ensures.ends)
    (λ k end at. let fresh = c.in-Ok.ensures.3 k end at in (fresh.0, fresh.1))
