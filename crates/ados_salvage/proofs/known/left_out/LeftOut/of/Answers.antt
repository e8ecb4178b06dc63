use Rattle.ados_salvage.proofs.KnownCommon.{◌≡◌, ℕ, List, ◌+◌, length, get_or, true, take, sym, ap, subst, arith, set, take_all, block_count, AreMarked}
use Rattle.ados_salvage.proofs.Leaving.{marked_next}
use Rattle.ados_salvage.proofs.known.left_out.LeftOut.of.Goals as goal

pub loop-header-preserved : goal.loop-header-preserved
loop-header-preserved c =
    let old = c.loop-header.invariant in
    let same = c.deref-header-items.ensures.value in
    let next = marked_next c.loop-header.marks.items c.args.headers.items c.loop-header.header-index (block_count c.args.image.now) 0 old.size c.requires old.marked (omega (arith, c.loop-header-test.true, ap length same)) in
    let both = subst (λ (xs : List ℕ). (length (set c.loop-header.marks.items (get_or xs c.loop-header.header-index 0) true) ≡ block_count c.args.image.now) × AreMarked (set c.loop-header.marks.items (get_or xs c.loop-header.header-index 0) true) (take (c.loop-header.header-index + 1) c.args.headers.items)) (sym same) next in
    record { size = both.0; marked = both.1 }

pub invariant_of-result : goal.invariant_of-result
invariant_of-result c =
    let all = subst (λ (xs : List ℕ). take c.loop-header.header-index xs ≡ xs) c.deref-header-items.ensures.value (take_all c.loop-header.header-index c.deref-header-items.result.now c.loop-header-test.false) in
    subst (AreMarked c.loop-header.marks.items) all c.loop-header.invariant.marked
