use Rattle.adf_block.proofs.Common.{ap, option_copied}
use Rattle.adf_block.proofs.Booting.{booted}
use Rattle.adf_block.proofs.boot_blocks.boot_image.Goals as goal

pub returns-else-code-gt-BOOT_BYTES : goal.returns-else-code-gt-BOOT_BYTES
returns-else-code-gt-BOOT_BYTES c =
    booted (option_copied c.args.code) c.in-Some.code.now c.args.image.now c.install.new.image _ (ap option_copied c.in-Some.is) c.if-code-gt-BOOT_BYTES.false c.install.ensures
