use Rattle.std.proofs.Common.{ℕ, ◌+◌, Vec, Global, sym, ap, ◌∙◌, subst}
use Rattle.ados_salvage.proofs.InOrder.{ListsBelow, lists_more, lists_same}
use Rattle.ados_salvage.specs.Account.{IsUnaccounted}
use Rattle.ados_salvage.proofs.account.unaccounted.unmarked_blocks.Goals as goal
use Rattle.ados_salvage.proofs.account.unaccounted.unmarked_blocks.Goals.{then-is_unaccounted+in_ok-push, else-is_unaccounted}

pub loop-block-preserved : goal.loop-block-preserved
loop-block-preserved c = elim c.if-is_unaccounted.branch [
  | then-is_unaccounted+in_ok-push w ↦
      lists_more (IsUnaccounted c.args.salvage.now) c.loop-block.block c.loop-block.blocks.items c.loop-block.invariant c.if-is_unaccounted.blocks.items
      (ap (λ (v : Vec ℕ Global). v.items) w.blocks-is ∙ w.in_ok-push.ensures.items) (rw w.if-is_unaccounted.true at c.is_unaccounted.ensures)
  | else-is_unaccounted w ↦
      subst (λ (v : Vec ℕ Global). ListsBelow (IsUnaccounted c.args.salvage.now) (c.loop-block.block + 1) v.items) (sym w.blocks-is)
      (lists_same (IsUnaccounted c.args.salvage.now) c.loop-block.block c.loop-block.blocks.items c.loop-block.invariant (rw w.if-is_unaccounted.false at c.is_unaccounted.ensures))
]
