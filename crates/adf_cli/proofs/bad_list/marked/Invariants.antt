use Rattle.std.proofs.Common.{take}
use Rattle.adf_cli.specs.BadBlocks.{AreMarked}
use Rattle.adf_cli.proofs.bad_list.marked.Given as goal

-- the blocks of the list before this one are marked
abbrev pub invariant-loop-block : goal.invariant-loop-block
invariant-loop-block l = AreMarked l.blocks l.fn.before.items (take l.block-index l.bad) l.marks.items
