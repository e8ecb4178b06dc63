use Rattle.ados_map.proofs.Common.{ap, sym, ◌∙◌, Bool, cond, w32, bit_at_set_same, bit_at_set_other, bit_at_clear_same, bit_at_clear_other}
use Rattle.ados_map.proofs.bits.with_bit.Goals as goal

pub returns-then-free : goal.returns-then-free
returns-then-free c = record {
  bit = bit_at_set_same w32 c.args.bits c.args.i c.requires ∙ ap (λ (b : Bool). cond b 1 0) (sym c.if-free.true);
  others = λ j lt ne. bit_at_set_other w32 c.args.bits c.args.i c.requires j ne;
}

pub returns-else-free : goal.returns-else-free
returns-else-free c = record {
  bit = bit_at_clear_same w32 c.args.bits c.args.i c.requires ∙ ap (λ (b : Bool). cond b 1 0) (sym c.if-free.false);
  others = λ j lt ne. bit_at_clear_other w32 c.args.bits c.args.i c.requires j lt ne;
}
