use Rattle.adf_block.proofs.Common.{sym, ◌∙◌}
use Rattle.adf_block.proofs.Booting.{sum_is}
use Rattle.adf_block.proofs.boot_blocks.settle_boot.Goals as goal

pub returns-clause-sum : goal.returns-clause-sum
returns-clause-sum c = c.set_long.ensures.long ∙ c.boot_sum-sum.ensures ∙ sym (sum_is c.args.image.now c.set_long.new.self c.set_long.ensures.rest)
