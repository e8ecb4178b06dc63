use Rattle.adf_block.proofs.Booting.{settled}
use Rattle.adf_block.proofs.boot_blocks.install.Goals as goal

pub returns : goal.returns
returns c =
    (settled c.args.code.now c.args.image.now c.put_code.new.image c.settle_boot.new.image c.put_code.ensures c.settle_boot.ensures.rest, c.settle_boot.ensures.sum)
