use Rattle.ados_salvage.proofs.InOrder.{ListsBelow}
use Rattle.ados_salvage.specs.Account.{IsUnaccounted}
use Rattle.ados_salvage.proofs.account.unaccounted.unmarked_blocks.Given as goal

abbrev pub invariant-loop-block : goal.invariant-loop-block
invariant-loop-block l = ListsBelow (IsUnaccounted l.salvage) l.block l.blocks.items
