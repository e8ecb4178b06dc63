use Rattle.std.proofs.Common.{sym, ap, ◌∙◌}
use Rattle.adf_c.specs.Changed.{differs}
use Rattle.adf_c.proofs.Changing.{one_that_differs, one_that_is_same}
use Rattle.adf_c.proofs.changed.changed_blocks.Goals.{then-differs+in_ok-push, else-differs}
use Rattle.adf_c.proofs.changed.changed_blocks.Goals as goal

pub loop-block-preserved : goal.loop-block-preserved
loop-block-preserved c =
    let p = differs c.args.copy.now c.args.image.now in
    elim c.if-differs.branch [
      | then-differs+in_ok-push w ↦ one_that_differs p c.loop-block.block c.loop-block.numbers.items c.if-differs.numbers.items c.loop-block.invariant (sym c.differs.ensures ∙ w.if-differs.true)
          (ap (λ (v : _). v.items) w.numbers-is ∙ w.in_ok-push.ensures.items)
      | else-differs w ↦ ap (λ (v : _). v.items) w.numbers-is ∙ one_that_is_same p c.loop-block.block c.loop-block.numbers.items c.loop-block.invariant (sym c.differs.ensures ∙ w.if-differs.false)
    ]
