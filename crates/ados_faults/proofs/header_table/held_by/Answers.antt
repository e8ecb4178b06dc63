use Rattle.ados_faults.proofs.Common.{◌≡◌, ◌+◌, ◌<◌, length, take, slice_index, sym, ap, subst, arith, below_more, refl, ◌∙◌, sum_by_more, sum_by, false≢true, get_or_default, take_all, held_count, InImage, pointers_of}
use Rattle.ados_faults.proofs.ByHeaders.{pointer_at}
use Rattle.ados_faults.proofs.header_table.held_by.Goals as goal

pub returns-then-not-is_inside : goal.returns-then-not-is_inside
returns-then-not-is_inside c = λ all.
    let image = c.args.image.now in
    let l : c.loop-i.i < length (pointers_of image c.args.header) = omega (arith, c.loop-i-test.true, c.pointers_in-i-end.ensures.count) in
    let is : slice_index (pointers_of image c.args.header) c.loop-i.i ≡ c.long-block.result = pointer_at image c.args.header c.loop-i.i l ∙ sym c.long-block.ensures in
    false≢true (sym c.if-not-is_inside.true ∙ c.is_inside.ensures.1 (subst (InImage image) is (all c.loop-i.i 0 l)))

pub loop-i-preserved : goal.loop-i-preserved
loop-i-preserved c =
    let image = c.args.image.now in
    let pointers = pointers_of image c.args.header in
    let l : c.loop-i.i < length pointers = omega (arith, c.loop-i-test.true, c.pointers_in-i-end.ensures.count) in
    let is : slice_index pointers c.loop-i.i ≡ c.long-block.result = pointer_at image c.args.header c.loop-i.i l ∙ sym c.long-block.ensures in
    let more : sum_by (held_count image) (take (c.loop-i.i + 1) pointers) ≡ sum_by (held_count image) (take c.loop-i.i pointers) + held_count image (slice_index pointers c.loop-i.i) =
    sum_by_more (held_count image) pointers c.loop-i.i 0 l in
    let held : held_count image (slice_index pointers c.loop-i.i) ≡ c.from.result = ap (held_count image) is ∙ sym (c.from.ensures ∙ c.long.ensures) in
    record {
      inside = below_more _ _ c.loop-i.invariant.inside (subst (InImage image) (sym is) (c.if-not-is_inside.ensures.0 refl));
      summed = omega (arith, more, held, c.saturating_add-sum.ensures, c.loop-i.invariant.summed);
    }

pub returns : goal.returns
returns c =
    let image = c.args.image.now in
    let pointers = pointers_of image c.args.header in
    let all = take_all c.loop-i.i pointers (omega (arith, c.loop-i-test.false, c.pointers_in-i-end.ensures.count)) in (
      λ k d l. subst (InImage image) (get_or_default pointers k 0 d l) (c.loop-i.invariant.inside k (omega (arith, l, c.loop-i-test.false, c.pointers_in-i-end.ensures.count))),
      omega (arith, c.loop-i.invariant.summed, ap (sum_by (held_count image)) all),
    )
