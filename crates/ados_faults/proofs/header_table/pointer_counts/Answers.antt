use Rattle.ados_faults.proofs.Common.{ℕ, length, arith, pointers_of}
use Rattle.ados_faults.proofs.OfEach.{of_each_all, of_each_more}
use Rattle.ados_faults.proofs.header_table.pointer_counts.Goals as goal

pub loop-header-preserved : goal.loop-header-preserved
loop-header-preserved c =
    of_each_more (λ (block : ℕ). length (pointers_of c.args.image.now block)) c.loop-header.header c.loop-header.counts.items c.push.new.self.items c.pointers_in.result c.loop-header.invariant c.in_ok-push.ensures.items
    c.pointers_in.ensures.count

pub returns : goal.returns
returns c =
    of_each_all c.args.image.now (λ (block : ℕ). length (pointers_of c.args.image.now block)) c.loop-header.header c.loop-header.counts.items c.loop-header.invariant
    (omega (arith, c.loop-header-test.false, c.loop-header.auto.header-end, c.blocks-header-end.ensures.count))
