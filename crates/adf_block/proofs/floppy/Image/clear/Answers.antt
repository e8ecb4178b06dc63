use Rattle.adf_block.proofs.Common.{ℕ, List, length, ap, ◌∙◌, arith, slice_index, get_or-replicate}
use Rattle.adf_block.proofs.Blocks.{byte_at-with_block, only-with_block}
use Rattle.adf_block.proofs.floppy.Image.clear.Goals as goal

pub returns-clause-empty : goal.returns-clause-empty
returns-clause-empty c = λ k l.
    byte_at-with_block c.args.self.now c.args.b c.fill.new.self c.requires (c.fill.ensures.len ∙ c.block_mut.ensures.length) k l
    ∙ ap (λ (xs : List ℕ). slice_index xs k) (c.fill.ensures.after (λ y e. e))
    ∙ get_or-replicate (length c.block_mut.result.now) k 0 0 (omega (arith, c.block_mut.ensures.length, l))

pub returns-clause-rest : goal.returns-clause-rest
returns-clause-rest c = only-with_block c.args.self.now c.args.b c.fill.new.self c.requires (c.fill.ensures.len ∙ c.block_mut.ensures.length)
