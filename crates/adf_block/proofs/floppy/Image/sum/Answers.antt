use Rattle.adf_block.proofs.Common.{◌≡◌, ℕ, ◌%◌, ◌^◌, ap, ◌∙◌, arith, total, long, block_sum}
use Rattle.adf_block.proofs.Totals.{total-more}
use Rattle.adf_block.proofs.floppy.Image.sum.Goals as goal

pub loop-i-preserved : goal.loop-i-preserved
loop-i-preserved c = omega (arith, total-more (long c.args.self.now c.args.b) c.loop-i.i, c.long-sum.ensures, c.loop-i.invariant)

pub returns : goal.returns
unfolding block_sum
returns c =
    let end : c.loop-i.i ≡ 128 = omega arith in
    c.loop-i.invariant ∙ ap (λ (n : ℕ). total (long c.args.self.now c.args.b) n % 2 ^ 32) end
