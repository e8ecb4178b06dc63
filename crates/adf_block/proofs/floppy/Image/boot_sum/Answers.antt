use Rattle.adf_block.proofs.Common.{ℕ, ◌-◌, ap, ◌∙◌, boot_sum, carried_sum}
use Rattle.adf_block.proofs.floppy.Image.boot_sum.Goals as goal

-- the complement of the end-around-carry sum
pub returns : goal.returns
unfolding boot_sum
returns c = ap (λ (s : ℕ). 4294967295 - s) (c.carry_round.ensures ∙ ap carried_sum c.boot_total.ensures.total)
