use Rattle.adf_block.proofs.Common.{◌≡◌, ◌<◌, ℕ, ◌+◌, ◌-◌, ◌%◌, ◌^◌, inr, sym, arith, long, block_sum}
use Rattle.adf_block.proofs.Frames.{changed_sum}
use Rattle.adf_block.proofs.Totals.{sum_fits}
use Rattle.adf_block.proofs.floppy.Image.set_summed.Goals as goal

-- the checksum balances the change of the other long
taken_up : (s0 s1 s2 check old v sum : ℕ) → (s1 + old) % 2 ^ 32 ≡ (s0 + v) % 2 ^ 32 → (s2 + check) % 2 ^ 32 ≡ (s1 + sum) % 2 ^ 32 → sum ≡ ((check + old) % 2 ^ 32 + (2 ^ 32 - v)) % 2 ^ 32 → v < 2 ^ 32
    → s0 < 2 ^ 32 → s2 < 2 ^ 32 → s2 ≡ s0
taken_up s0 s1 s2 check old v sum first second up fits was now = omega arith

pub returns-clause-sum : goal.returns-clause-sum
returns-clause-sum c =
    let first = changed_sum c.args.b c.args.i c.args.self.now c.set_long.new.self c.set_long.ensures.rest c.requires.place in
    let second = changed_sum c.args.b c.args.field c.set_long.new.self c.set_long-2.new.self c.set_long-2.ensures.rest c.requires.sum_place in
    let stays = c.set_long.ensures.others c.args.b c.args.field c.requires.sum_place (inr (λ e. c.requires.apart (sym e))) in
    taken_up (block_sum c.args.self.now c.args.b) (block_sum c.set_long.new.self c.args.b) (block_sum c.set_long-2.new.self c.args.b)
    c.long.result c.long-old.result c.args.v (long c.set_long-2.new.self c.args.b c.args.field)
    (omega (arith, first, c.long-old.ensures, c.set_long.ensures.long)) (omega (arith, second, stays, c.long.ensures)) c.set_long-2.ensures.long (omega (arith, c.ranges.v.fits))
    (sum_fits c.args.self.now c.args.b) (sum_fits c.set_long-2.new.self c.args.b)
