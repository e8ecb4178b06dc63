use Rattle.std.proofs.Common.{ap}
use Rattle.ados_port.proofs.Moves.{pushes}
use Rattle.ados_port.proofs.queue.PutEnd.put.Goals as goal

pub push_as-requires-clause-rule : goal.push_as-requires-clause-rule
push_as-requires-clause-rule g c = let h = c.self.invariant in λ n. pushes n _ _ _ _ (ap (λ v. v.handles) h.1.0) (ap (λ v. v.number) h.1.0) h.1.1
