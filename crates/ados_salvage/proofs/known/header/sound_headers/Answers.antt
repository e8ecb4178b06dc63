use Rattle.std.proofs.Common.{arith}
use Rattle.ados_salvage.proofs.Heading.{decided_more}
use Rattle.ados_salvage.specs.Sound.{IsSoundHeader}
use Rattle.ados_salvage.proofs.known.header.sound_headers.Goals as goal

pub loop-block-preserved : goal.loop-block-preserved
loop-block-preserved c = record {
  size = omega (arith, c.in_ok-push.ensures.len, c.loop-block.invariant.size);
  decided = decided_more (IsSoundHeader c.args.image.now) c.loop-block.block c.loop-block.sound.items c.push.new.self.items c.is_sound_header.result c.loop-block.invariant.size c.loop-block.invariant.decided c.in_ok-push.ensures.items c.is_sound_header.ensures;
}
