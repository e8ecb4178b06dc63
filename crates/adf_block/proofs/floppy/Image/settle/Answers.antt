use Rattle.adf_block.proofs.Common.{◌≡◌, ◌<◌, ℕ, ◌+◌, ◌-◌, ◌%◌, ◌^◌, inr, ap, ◌∙◌, arith, total, long, block_sum}
use Rattle.adf_block.proofs.Totals.{total-one}
use Rattle.adf_block.proofs.floppy.Image.settle.Goals as goal

-- the new total is 0: x replaces y and balances the other longs
made_up : (s t u x y : ℕ) → u + y ≡ t + x → s ≡ t % 2 ^ 32 → (x + (s + (2 ^ 32 - y)) % 2 ^ 32) % 2 ^ 32 ≡ 0 → y < 2 ^ 32 → u % 2 ^ 32 ≡ 0
made_up s t u x y moved was up fits = omega arith

pub returns-clause-sum : goal.returns-clause-sum
unfolding block_sum
returns-clause-sum c =
    let old = long c.args.self.now c.args.b in
    let new = long c.set_long.new.self c.args.b in
    let one = total-one old new c.args.field 128 c.requires.place (λ j lt ne. c.set_long.ensures.others c.args.b j lt (inr ne)) in
    let moved : total new 128 + c.long.result ≡ total old 128 + c.wrapping_neg.result = ap (λ (y : ℕ). total new 128 + y) c.long.ensures ∙ one ∙ ap (λ (x : ℕ). total old 128 + x) c.set_long.ensures.long in
    made_up c.sum.result (total old 128) (total new 128) c.wrapping_neg.result c.long.result moved c.sum.ensures c.wrapping_neg.ensures c.long.type_inv
