use Rattle.ados_check.proofs.Common.{◌≡◌, ℕ, ◌%◌, ◌^◌, ap, ◌∙◌, arith, total, long, block_sum, total-more}
use Rattle.ados_check.proofs.Reading.{first_long}
use Rattle.ados_check.proofs.sketch.sum.Goals as goal

pub loop-i-preserved : goal.loop-i-preserved
loop-i-preserved c =
    let read = c.read_long-sum.ensures ∙ first_long c.args.block.now c.loop-i.i in
    omega (arith, total-more (long c.args.block.now 0) c.loop-i.i, read, c.loop-i.invariant)

pub returns : goal.returns
unfolding block_sum
returns c =
    let end : c.loop-i.i ≡ 128 = omega arith in
    c.loop-i.invariant ∙ ap (λ (n : ℕ). total (long c.args.block.now 0) n % 2 ^ 32) end
