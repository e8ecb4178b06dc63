use Rattle.ados_salvage.proofs.KnownCommon.{◌≡◌, ◌≤◌, ℕ, List, Contains, suc, sym, ap, ◌∙◌, subst, arith, extension_count, extensions_needed}
use Rattle.ados_salvage.proofs.FileBlocks.{all_holders, not_again, not_ended, not_holder}
use Rattle.ados_salvage.proofs.known.holders.holders.Goals as goal

pub returns-then-not-is_holder : goal.returns-then-not-is_holder
returns-then-not-is_holder c =
    let same : extension_count c.args.needed ≡ extensions_needed c.args.image.now c.args.file = ap extension_count c.requires.needed in
    let below : c.loop-q.q ≤ extension_count c.args.needed = omega (arith, c.loop-q-test.true, c.max-q-end.ensures, c.div_ceil.ensures) in
    not_holder c.args.image.now c.args.file c.loop-q.q c.loop-q.holder (omega (arith, below, same)) c.loop-q.invariant.holder (λ h. absurd (cc (c.is_holder.ensures.1 h, c.if-not-is_holder.true)))

pub returns-then-is_again : goal.returns-then-is_again
returns-then-is_again c =
    let same : extension_count c.args.needed ≡ extensions_needed c.args.image.now c.args.file = ap extension_count c.requires.needed in
    let below : c.loop-q.q ≤ extension_count c.args.needed = omega (arith, c.loop-q-test.true, c.max-q-end.ensures, c.div_ceil.ensures) in
    not_again c.args.image.now c.args.file c.loop-q.blocks.items c.loop-q.q c.loop-q.holder c.loop-q.invariant.size c.loop-q.invariant.block
    (subst (λ (xs : List ℕ). Contains xs c.loop-q.holder) c.deref.ensures.value (c.is_again.ensures c.if-is_again.true)) (omega (arith, below, same)) c.loop-q.invariant.holder

pub returns-then-holder-ne0 : goal.returns-then-holder-ne0
returns-then-holder-ne0 c =
    let same : suc (extension_count c.args.needed) ≡ suc (extensions_needed c.args.image.now c.args.file) = ap (λ (n : ℕ). suc (extension_count n)) c.requires.needed in
    let count : c.loop-q.q ≡ suc (extension_count c.args.needed) = omega (arith, c.loop-q-test.false, c.loop-q.auto.q-end, c.max-q-end.ensures, c.div_ceil.ensures) in
    not_ended c.args.image.now c.args.file c.loop-q.q c.loop-q.holder (count ∙ same) c.loop-q.invariant.holder c.if-holder-ne0.true

pub returns : goal.returns
returns c =
    let same : suc (extension_count c.args.needed) ≡ suc (extensions_needed c.args.image.now c.args.file) = ap (λ (n : ℕ). suc (extension_count n)) c.requires.needed in
    let count : c.loop-q.q ≡ suc (extension_count c.args.needed) = omega (arith, c.loop-q-test.false, c.loop-q.auto.q-end, c.max-q-end.ensures, c.div_ceil.ensures) in
    all_holders c.args.image.now c.args.file c.loop-q.blocks.items c.loop-q.q (count ∙ same) c.loop-q.invariant.size c.loop-q.invariant.block c.loop-q.invariant.sound
    (sym c.loop-q.invariant.holder ∙ c.if-holder-ne0.false)
