use Rattle.std.proofs.Common.{arith}
use Rattle.ados_port.proofs.Places.{fits}
use Rattle.ados_port.proofs.exchange.Exchange.witness.Goals as goal

pub returns : goal.returns
returns g c =
    let e = c.self.inside in
    rw (← c.self.view_is) (fits e.server e.clients.items e.waiting.items e.waiting.cap (omega (arith, e.waiting.ok.0, e.waiting.small.1)))
