use Rattle.ados_port.proofs.Replayed.{lists_have_a_history}
use Rattle.ados_port.proofs.laws.lists_have_a_history.Goals as goal

pub returns : goal.returns
returns g c = lists_have_a_history g.S.Server.gives g.S.Server.has_died
