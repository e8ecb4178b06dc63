use Rattle.std.proofs.Common.{ap}
use Rattle.ados_port.proofs.Moves.{pops, learns}
use Rattle.ados_port.proofs.queue.TakeEnd.take.Goals as goal

pub pop_as-found-requires-clause-rule : goal.pop_as-found-requires-clause-rule
pop_as-found-requires-clause-rule g c = let is = ap (λ v. v.handles) c.self.invariant.1 in (pops _ _ is, learns _ _ is)
