use Rattle.ados_salvage.proofs.Common.{ℕ, ◌+◌, sym, subst, arith, AreSettled}
use Rattle.ados_salvage.proofs.loose.add_found.Goals as goal

pub loop-part-preserved : goal.loop-part-preserved
loop-part-preserved c =
    subst (λ (n : ℕ). AreSettled c.args.known.now (n + 1) c.add_file.new.gathered) (sym c.from-next.ensures)
    (c.in_ok-add_file.ensures c.loop-part.next (omega (arith, c.if-from-next.false, c.from.ensures)) c.loop-part.invariant)
