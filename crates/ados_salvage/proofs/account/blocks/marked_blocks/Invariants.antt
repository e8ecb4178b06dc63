use Rattle.ados_salvage.proofs.InOrder.{ListsBelow}
use Rattle.ados_salvage.proofs.AccountCommon.{IsMarked}
use Rattle.ados_salvage.proofs.account.blocks.marked_blocks.Given as goal

abbrev pub invariant-loop-block : goal.invariant-loop-block
invariant-loop-block l = ListsBelow (IsMarked l.marks) l.block l.blocks.items
