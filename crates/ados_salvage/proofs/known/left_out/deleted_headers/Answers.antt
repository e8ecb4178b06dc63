use Rattle.std.proofs.Common.{ℕ, Vec, Global, ◌+◌, sym, ap, ◌∙◌, subst}
use Rattle.ados_salvage.specs.Deleted.{IsDeleted}
use Rattle.ados_salvage.proofs.InOrder.{ListsBelow, lists_more, lists_same}
use Rattle.ados_salvage.proofs.known.left_out.deleted_headers.Goals as goal
use Rattle.ados_salvage.proofs.known.left_out.deleted_headers.Goals.{then-is_deleted+in_ok-push, else-is_deleted}

pub loop-block-preserved : goal.loop-block-preserved
loop-block-preserved c = elim c.if-is_deleted.branch [
  | then-is_deleted+in_ok-push w ↦
      lists_more (IsDeleted c.args.image.now) c.loop-block.block c.loop-block.headers.items c.loop-block.invariant c.if-is_deleted.headers.items
      (ap (λ (v : Vec ℕ Global). v.items) w.headers-is ∙ w.in_ok-push.ensures.items) (rw w.if-is_deleted.true at c.is_deleted.ensures)
  | else-is_deleted w ↦
      subst (λ (v : Vec ℕ Global). ListsBelow (IsDeleted c.args.image.now) (c.loop-block.block + 1) v.items) (sym w.headers-is)
      (lists_same (IsDeleted c.args.image.now) c.loop-block.block c.loop-block.headers.items c.loop-block.invariant (rw w.if-is_deleted.false at c.is_deleted.ensures))
]
