use Rattle.ados_validate.proofs.Common.{◌≡◌, ℕ, ◌%◌, ◌^◌, ap, ◌∙◌, arith, total, long, block_sum, page_block}
use Rattle.ados_validate.proofs.old_bitmap.OldBitmap.sum.Goals as goal

pub returns : goal.returns
unfolding block_sum
returns c =
    let end : c.loop-i.i ≡ 128 = omega arith in
    c.loop-i.invariant ∙ ap (λ (n : ℕ). total (long c.args.self.now (page_block c.args.self.now c.args.p)) n % 2 ^ 32) end
