use Rattle.std.proofs.Common.{ℕ, ◌+◌, ◌-◌, ◌/◌, ◌%◌, not, eqb, bit_and, arith, ap, ap₂, sym, ◌∙◌}
use Rattle.adf_block.specs.Image.{long}
use Rattle.adf_rescue.proofs.Marks.{free_is, shifted}
use Rattle.adf_rescue.proofs.untrusted.has_free_bit.Goals as goal

pub returns : goal.returns
returns c =
    let image = c.args.image.now in
    let bit = c.args.block - 2 in
    let read = c.long.ensures ∙ ap (λ (page : ℕ). long image page (1 + bit % 4064 / 32)) c.requires.page in
    ap₂ (λ (bits mask : ℕ). not (eqb (bit_and bits mask) 0)) read (shifted (bit % 32) (omega arith)) ∙ sym (free_is image c.args.block)
