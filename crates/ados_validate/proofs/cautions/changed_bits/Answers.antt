use Rattle.ados_validate.proofs.Common.{long, ℕ, ◌+◌, bit_xor, arith, ap, ap₂, ◌∙◌, xor_of_32}
use Rattle.std.specs.Int.Count.{ones, ones-le}
use Rattle.adf_block.proofs.Totals.{total-more}
use Rattle.ados_validate.proofs.Counted.{bits_at}
use Rattle.ados_validate.proofs.cautions.changed_bits.Goals as goal

pub overflow_add-bits : goal.overflow_add-bits
overflow_add-bits c =
    let few = ones-le 32 (bit_xor c.long.result c.long-in-loop-i.result) (xor_of_32 c.long.result c.long-in-loop-i.result c.long.type_inv c.long-in-loop-i.type_inv) in
    omega (arith, few)

pub loop-i-preserved : goal.loop-i-preserved
loop-i-preserved c =
    let few = ones-le 32 (bit_xor c.long.result c.long-in-loop-i.result) (xor_of_32 c.long.result c.long-in-loop-i.result c.long.type_inv c.long-in-loop-i.type_inv) in
    let more = total-more (bits_at c.args.old.now c.args.new.now c.args.page) c.loop-i.i in
    let was = c.long.ensures ∙ ap (λ (b : ℕ). long c.args.old.now b (c.loop-i.i + 1)) c.requires.page in
    let here = ap₂ (λ x y. ones (bit_xor x y)) was c.long-in-loop-i.ensures in
    record { counted = omega (arith, more, here); bound = omega (arith, few) }
