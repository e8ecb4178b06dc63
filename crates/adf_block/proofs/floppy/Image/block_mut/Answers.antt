use Rattle.adf_block.proofs.Common.{◌≡◌, ◌+◌, ◌-◌, ◌*◌, ◌≤◌, ◌++◌, ℕ, List, length, take, drop, arith, refl, ap, ap₂, ◌∙◌, length-take, length-drop, bytes_at, with_block}
use Rattle.adf_block.proofs.Bytes.{length-written, overlaid}
use Rattle.adf_block.proofs.floppy.Image.block_mut.Goals as goal

pub invariant_of-self-lent : goal.invariant_of-self-lent
invariant_of-self-lent c = λ w.
    let xs = c.self.inside.bytes.items in
    let now : length xs ≡ length c.args.self.now = ap length c.self.view_is in
    let len : c.self.inside.bytes.len ≡ length xs = omega (arith, c.self.inside.bytes.ok.0) in
    let written = take (c.args.b * 512) xs ++ (w ++ drop (length w) (drop (c.args.b * 512) xs)) in
    record {
      blocks = c.self.invariant.blocks;
      size = c.self.invariant.size;
      whole = ap (λ (k : ℕ). length (take k (written ++ drop (length written) xs))) len ∙ length-written xs written ∙ c.self.invariant.whole;
    }

pub returns : goal.returns
unfolding bytes_at with_block
returns c =
    let xs = c.self.inside.bytes.items in
    let now : length xs ≡ length c.args.self.now = ap length c.self.view_is in
    let len : c.self.inside.bytes.len ≡ length xs = omega (arith, c.self.inside.bytes.ok.0) in
    let room : c.args.b * 512 + 512 ≤ length xs = omega (arith, c.requires) in
    let size : c.args.b * 512 + 512 - c.args.b * 512 ≡ 512 = omega arith in
    let at : c.args.b * 512 ≡ 512 * c.args.b = omega arith in
    let start : c.args.b * 512 ≡ 512 * c.args.b + 0 = omega arith in
    let value : c.slice_mut.result.now ≡ take 512 (drop (512 * c.args.b + 0) c.args.self.now) =
    c.slice_mut.ensures.value
    ∙ ap₂ (λ (m k : ℕ). take m (drop k xs)) size start
    ∙ ap (λ (ys : List ℕ). take 512 (drop (512 * c.args.b + 0) ys)) c.self.view_is in (
      (
        refl,
        λ w.
            overlaid xs (c.args.b * 512) (512 * c.args.b) c.self.inside.bytes.len w at len (omega arith)
            ∙ ap (λ (ys : List ℕ). with_block ys c.args.b w) c.self.view_is,
      ),
      record { writes_back = tt; bytes = value; length = ap length value ∙ omega (arith, length-take 512 (drop (512 * c.args.b + 0) c.args.self.now), length-drop (512 * c.args.b + 0) c.args.self.now) },
    )
