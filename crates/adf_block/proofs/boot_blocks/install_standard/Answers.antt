use Rattle.adf_block.proofs.Coding.{is_standard}
use Rattle.adf_block.proofs.boot_blocks.install_standard.Goals as goal

pub returns-clause-shown : goal.returns-clause-shown
returns-clause-shown c = is_standard c.args.image.now c.install.new.image c.install.ensures
