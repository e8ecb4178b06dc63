use Rattle.std.proofs.Common.{sym, subst}
use Rattle.ados_port.specs.Ends.{OfClients}
use Rattle.ados_port.specs.steps.Rule.{ArePutLists}
use Rattle.ados_port.proofs.Takes.{rest_ends}
use Rattle.ados_port.proofs.gathering.take_rest.Goals as goal

pub returns-in-None-take-clause-order : goal.returns-in-None-take-clause-order
returns-in-None-take-clause-order g c = rest_ends _ _ _ _ c.loop.invariant.queue c.in-None-take.ensures.none.0

pub returns-in-None-take-clause-clients : goal.returns-in-None-take-clause-clients
returns-in-None-take-clause-clients g c = let n = c.in-None-take.ensures.none in subst (λ q. OfClients q.clients q.taken) (sym n.0) n.1

pub returns-in-None-take-clause-puts : goal.returns-in-None-take-clause-puts
returns-in-None-take-clause-puts g c = let n = c.in-None-take.ensures.none in subst (λ q. ArePutLists q.known q.taken) (sym n.0) n.2
