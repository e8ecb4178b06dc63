use Rattle.std.proofs.Common.{ap, ◌∙◌, not}
use Rattle.std.specs.Prelude.{bytes_eq}
use Rattle.adf_block.specs.Image.{bytes_at}
use Rattle.adf_c.proofs.Changing.{block_of}
use Rattle.adf_c.proofs.changed.differs.Goals as goal

pub returns : goal.returns
returns c = c.ne.ensures ∙ ap (λ b. not (bytes_eq b c.block.result.now)) (block_of c.args.copy.now c.args.block) ∙ ap (λ b. not (bytes_eq (bytes_at c.args.copy.now c.args.block 0 512) b)) c.block.ensures.bytes
