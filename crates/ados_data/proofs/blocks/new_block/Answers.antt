use Rattle.ados_data.proofs.Common.{arith}
use Rattle.ados_data.proofs.Marks.{none_counted}
use Rattle.ados_data.proofs.Standing.{new_block_taken}
use Rattle.ados_data.proofs.blocks.new_block.Goals as goal

pub unreachable-requires : goal.unreachable-requires
unreachable-requires c = omega (arith, c.requires.free, none_counted c.args.image.now c.in_default.ensures.none.0)

pub returns : goal.returns
returns c =
    new_block_taken c.args.image.now c.in-Some.block c.take_first_from.new.image c.clear.new.self (omega (arith, c.blocks-2.ensures.count, c.blocks-2.ensures.size), omega (arith, c.blocks-2.ensures.count, c.blocks-2.ensures.size))
    c.requires.map c.in-Some.ensures.none.0 c.in-Some.ensures.none.1 c.take_first_from.ensures.pages c.clear.ensures.rest c.clear.ensures.empty
