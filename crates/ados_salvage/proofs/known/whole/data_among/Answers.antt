use Rattle.ados_salvage.proofs.KnownCommon.{length, ap, arith}
use Rattle.ados_salvage.proofs.FileBlocks.{own_behind}
use Rattle.ados_salvage.proofs.SoundParts.{length-own}
use Rattle.ados_salvage.proofs.known.whole.data_among.Goals as goal

pub overflow_sub-first : goal.overflow_sub-first
overflow_sub-first c = omega (arith, ap length c.requires.blocks, length-own c.args.image.now c.args.file, c.data_needed.ensures)

pub returns : goal.returns
returns c = own_behind c.args.image.now c.args.file c.args.blocks.now c.data_needed.result c.requires.blocks c.data_needed.ensures
