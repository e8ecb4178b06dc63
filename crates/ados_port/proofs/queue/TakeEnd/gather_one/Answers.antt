use Rattle.std.proofs.Common.{ap, ◌∙◌, sym, length, ◌+◌}
use Rattle.ados_port.proofs.Moves.{merges}
use Rattle.ados_port.proofs.queue.TakeEnd.gather_one.Goals as goal

pub absorb-requires-clause-rule : goal.absorb-requires-clause-rule
absorb-requires-clause-rule g c =
    merges _ _ _ _ (ap (λ v. v.handles) c.self.invariant.1)
    (ap (λ v. v.number) c.end.invariant.1.0 ∙ (ap (λ v. v.number) c.end.view_is ∙ (c.requires.next ∙ ap (λ v. length v.known + 1) (sym c.self.view_is))))
