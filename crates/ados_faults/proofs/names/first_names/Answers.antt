use Rattle.ados_faults.proofs.Common.{◌+◌, ℕ, length, sym, ap, subst, arith, ◌∙◌, length_push}
use Rattle.ados_faults.proofs.Sameness.{AreFirstSoFar, first_more, first_none, none_known}
use Rattle.ados_faults.proofs.names.first_names.Goals as goal

pub loop-block-init : goal.loop-block-init
loop-block-init c = record {
  known = none_known c.args.image.now c.new-known.result c.new-known.ensures.empty;
  size = ap length c.new-first.ensures.items;
  each = subst (AreFirstSoFar c.args.image.now c.new-known.result) (sym c.new-first.ensures.items) (first_none c.args.image.now c.new-known.result);
}

pub loop-block-preserved : goal.loop-block-preserved
loop-block-preserved c =
    let done = c.in_ok-same.ensures in
    record {
      known = done.known;
      size = ap length c.in_ok-push.ensures.items ∙ length_push c.loop-block.first.items c.in_ok-same.same ∙ ap (λ (n : ℕ). n + 1) c.loop-block.invariant.size;
      each = subst (AreFirstSoFar c.args.image.now c.first_with_name.new.known) (sym c.in_ok-push.ensures.items)
          (first_more c.args.image.now c.loop-block.known c.first_with_name.new.known c.loop-block.first.items c.loop-block.block c.in_ok-same.same c.loop-block.invariant.size done.kept c.loop-block.invariant.each
          done.first);
    }

pub returns : goal.returns
returns c = record {
  known = c.loop-block.known;
  are_known = c.loop-block.invariant.known;
  size = omega (arith, c.loop-block.invariant.size, c.loop-block-test.false, c.loop-block.auto.block-end, c.blocks-block-end.ensures.count);
  each = c.loop-block.invariant.each.each;
}
