use Rattle.adf_block.proofs.Common.{◌≡◌, ◌<◌, ℕ, List, slice_index, length, arith, refl, ap, subst}
use Rattle.adf_block.proofs.floppy.Image.from_bytes.Goals as goal

pub invariant_of-result : goal.invariant_of-result
invariant_of-result c =
    let same : length c.deref.result.now ≡ length c.args.bytes.items = ap length c.deref.ensures.value in
    record {
      blocks = c.whole_blocks-blocks.result;
      size = (c.if-blocks.false, c.if-blocks-2.false);
      whole = omega (arith, same, c.deref.ensures.len, c.len.ensures, c.whole_blocks-blocks.ensures.count);
    }

pub returns-clause-ok : goal.returns-clause-ok
returns-clause-ok c =
    let whole = invariant_of-result c in
    let P : List ℕ → Type 0 = λ xs. (i : ℕ) → slice_index xs i < 256 in
    (refl, record { blocks = whole.blocks; size = whole.size; whole = whole.whole; byte = subst P c.deref.ensures.value c.whole_blocks-blocks.ensures.bytes })
