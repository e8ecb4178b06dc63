use Rattle.adf_where.proofs.Common.{take, AllZip, IsFaultyBlock}
use Rattle.adf_where.proofs.faulty.faulty_blocks.Given as goal

-- what is told of the blocks before this one
abbrev pub invariant-loop-block : goal.invariant-loop-block
invariant-loop-block l = AllZip (IsFaultyBlock l.image l.unread) (take l.block-index l.blocks) l.told.items
