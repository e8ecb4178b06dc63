use Rattle.adf_block.proofs.Common.{ℕ, List, slice_index, ap, ◌∙◌, take_rest}
use Rattle.adf_block.proofs.Booting.{holds_code}
use Rattle.adf_block.proofs.boot_blocks.put_code.Goals as goal

pub returns : goal.returns
returns c =
    holds_code c.args.code.now c.args.image.now c.put_block.new.image c.put_block-2.new.image c.set_long.new.self c.min-front.result c.min-front.ensures
    c.put_block.ensures.byte c.put_block.ensures.rest
    (λ k lt. c.put_block-2.ensures.byte k lt ∙ ap (λ (bytes : List ℕ). slice_index bytes k) (take_rest c.args.code.now c.min-front.result)) c.put_block-2.ensures.rest
    c.set_long.ensures.rest (c.set_long.ensures.long ∙ c.long-kind.ensures)
