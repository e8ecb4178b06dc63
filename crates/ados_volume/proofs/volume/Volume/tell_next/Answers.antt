use Rattle.std.proofs.Common.{sym, ◌∙◌}
use Rattle.ados_volume.proofs.Looking.{next_listed}
use Rattle.ados_volume.proofs.Staying.{with_told}
use Rattle.ados_volume.proofs.volume.Volume.tell_next.Goals as goal

pub invariant_of-self : goal.invariant_of-self
invariant_of-self c =
    with_told c.self.invariant _ (c.keep.ensures c.self.inside.image (λ t s. next_listed t c.args.dir c.args.key c.in-Entry.entry (sym (c.next_in-next.ensures t s) ∙ c.in-Entry.is)) c.self.invariant.listed)
