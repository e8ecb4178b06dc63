use Rattle.std.proofs.Common.{◌≡◌, ℕ, ◌+◌, true, false, Vec, Global, sym, ap, ◌∙◌, subst, arith}
use Rattle.ados_salvage.proofs.InOrder.{ListsBelow, lists_more, lists_same}
use Rattle.ados_salvage.proofs.AccountCommon.{IsMarked}
use Rattle.ados_salvage.proofs.Telling.{lists_all}
use Rattle.ados_salvage.proofs.account.blocks.marked_blocks.Goals as goal
use Rattle.ados_salvage.proofs.account.blocks.marked_blocks.Goals.{then-marks-block+in_ok-push, else-marks-block}

pub loop-block-preserved : goal.loop-block-preserved
loop-block-preserved c = elim c.if-marks-block.branch [
  | then-marks-block+in_ok-push w ↦
      lists_more (IsMarked c.args.marks.now) c.loop-block.block c.loop-block.blocks.items c.loop-block.invariant c.if-marks-block.blocks.items
      (ap (λ (v : Vec ℕ Global). v.items) w.blocks-is ∙ w.in_ok-push.ensures.items) w.if-marks-block.true
  | else-marks-block w ↦
      subst (λ (v : Vec ℕ Global). ListsBelow (IsMarked c.args.marks.now) (c.loop-block.block + 1) v.items) (sym w.blocks-is)
      (lists_same (IsMarked c.args.marks.now) c.loop-block.block c.loop-block.blocks.items c.loop-block.invariant (λ is. let both : true ≡ false = sym is ∙ w.if-marks-block.false in absurd (cc both)))
]

pub returns : goal.returns
returns c = lists_all c.args.marks.now c.loop-block.block c.loop-block.blocks.items (omega (arith, c.loop-block-test.false, c.loop-block.auto.block-end, c.requires)) c.loop-block.invariant
