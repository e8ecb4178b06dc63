use Rattle.ados_port.proofs.Closing.{closed_after_death}
use Rattle.ados_port.proofs.laws.closed_after_death.Goals as goal

pub returns : goal.returns
returns g c = closed_after_death g.S.Server.gives g.S.Server.has_died g.met.S.Server.stays_dead
