use Rattle.std.proofs.Common.{ℕ, List, Vec, Global, ◌+◌, sym, ap, ◌∙◌, subst, arith}
use Rattle.ados_faults.proofs.Insides.{reached_inside}
use Rattle.ados_model.specs.Faults.{IsEntry}
use Rattle.ados_salvage.proofs.InOrder.{ListsBelow, lists_more, lists_same}
use Rattle.ados_salvage.proofs.known.entries.reached_entries.Goals as goal
use Rattle.ados_salvage.proofs.known.entries.reached_entries.Goals.{then-has_entry+in_ok-push, else-has_entry}

pub loop-block-preserved : goal.loop-block-preserved
loop-block-preserved c = elim c.if-has_entry.branch [
  | then-has_entry+in_ok-push w ↦
      lists_more (IsEntry c.args.image.now) c.loop-block.block c.loop-block.entries.items c.loop-block.invariant c.if-has_entry.entries.items
      (ap (λ (v : Vec ℕ Global). v.items) w.entries-is ∙ w.in_ok-push.ensures.items)
      (subst (λ (image : List ℕ). IsEntry image c.loop-block.block) c.in_ok-reached.ensures (rw w.if-has_entry.true at c.has_entry.ensures))
  | else-has_entry w ↦
      subst (λ (v : Vec ℕ Global). ListsBelow (IsEntry c.args.image.now) (c.loop-block.block + 1) v.items) (sym w.entries-is)
      (lists_same (IsEntry c.args.image.now) c.loop-block.block c.loop-block.entries.items c.loop-block.invariant
      (subst (λ (image : List ℕ). ¬ IsEntry image c.loop-block.block) c.in_ok-reached.ensures (rw w.if-has_entry.false at c.has_entry.ensures)))
]

pub returns : goal.returns
returns c = record {
  in_order = c.loop-block.invariant.in_order;
  each = c.loop-block.invariant.each;
  all = λ block entry.
      let inside = reached_inside c.args.image.now c.blocks-block-end.ensures.image entry.2 in
      c.loop-block.invariant.all block (omega (arith, inside.1, c.loop-block-test.false, c.blocks-block-end.ensures.count)) entry;
}
