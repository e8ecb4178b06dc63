use Rattle.std.proofs.Common.{arith}
use Rattle.ados_volume.proofs.BlankMarks.{names_blank}
use Rattle.ados_volume.proofs.blank_volume.named_blocks.Goals as goal

pub returns : goal.returns
returns c = names_blank c.args.blocks c.loop-block.block c.loop-block.named.items c.requires.0 (omega arith) c.loop-block.invariant.count c.loop-block.invariant.marks
