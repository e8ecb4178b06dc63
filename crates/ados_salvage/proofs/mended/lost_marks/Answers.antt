use Rattle.std.proofs.Common.{arith}
use Rattle.ados_salvage.specs.PutRight.{MayBePutRight}
use Rattle.ados_salvage.proofs.Heading.{decided_more}
use Rattle.ados_salvage.proofs.mended.lost_marks.Goals as goal

pub loop-block-preserved : goal.loop-block-preserved
loop-block-preserved c = record {
  size = omega (arith, c.in_ok-push.ensures.len, c.loop-block.invariant.size);
  decided = decided_more (MayBePutRight c.args.known.now.left_out c.args.known.now.image) c.loop-block.block c.loop-block.lost.items c.push.new.self.items c.is_lost.result
      c.loop-block.invariant.size c.loop-block.invariant.decided c.in_ok-push.ensures.items c.is_lost.ensures;
}
