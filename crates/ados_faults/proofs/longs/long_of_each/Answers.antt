use Rattle.ados_faults.proofs.Common.{ℕ, arith, long}
use Rattle.ados_faults.proofs.OfEach.{of_each_all, of_each_more}
use Rattle.ados_faults.proofs.longs.long_of_each.Goals as goal

pub loop-block-preserved : goal.loop-block-preserved
loop-block-preserved c =
    of_each_more (λ (block : ℕ). long c.args.image.now block c.args.i) c.loop-block.block c.loop-block.longs.items c.push.new.self.items c.long.result c.loop-block.invariant c.in_ok-push.ensures.items c.long.ensures

pub returns : goal.returns
returns c =
    of_each_all c.args.image.now (λ (block : ℕ). long c.args.image.now block c.args.i) c.loop-block.block c.loop-block.longs.items c.loop-block.invariant
    (omega (arith, c.loop-block-test.false, c.loop-block.auto.block-end, c.blocks-block-end.ensures.count))
