use Rattle.adf_block.proofs.Common.{◌≡◌, ◌<◌, ℕ, List, slice_index, length, ap, sym, ◌∙◌, subst}
use Rattle.adf_block.proofs.floppy.Image.blocks.Goals as goal

pub returns-clause-image : goal.returns-clause-image
returns-clause-image c =
    let same : c.deref.result.now ≡ c.args.self.now = c.deref.ensures.value ∙ c.self.view_is in
    let P : List ℕ → Type 0 = λ xs. (i : ℕ) → slice_index xs i < 256 in
    record {
      blocks = c.self.invariant.blocks;
      size = c.self.invariant.size;
      whole = ap length (sym c.self.view_is) ∙ c.self.invariant.whole;
      byte = subst P same c.whole_blocks.ensures.bytes;
    }
