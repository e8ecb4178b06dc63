use Rattle.std.proofs.Common.{subst}
use Rattle.ados_port.specs.steps.HandlerEnds.{Heard}
use Rattle.ados_port.proofs.handler.HandlerEnd.hear.Goals as goal

pub returns-clause-heard : goal.returns-clause-heard
returns-clause-heard g c =
    λ believed. subst (λ v. Heard g.S.Server.is_closing (g.S.Server.has_died v.server) c.args.client.now) c.self.view_is (c.tell.ensures.heard believed)
