use Rattle.adf_block.proofs.Common.{◌+◌, length}
use Rattle.adf_block.proofs.Booting.{put_byte, put_rest}
use Rattle.adf_block.proofs.boot_blocks.put_block.Goals as goal

pub returns-clause-byte : goal.returns-clause-byte
returns-clause-byte c = put_byte c.clear.new.self c.put_bytes.new.self c.args.b c.args.bytes.now c.clear.ensures.empty c.put_bytes.ensures.put c.put_bytes.ensures.rest

pub returns-clause-rest : goal.returns-clause-rest
returns-clause-rest c = put_rest c.args.image.now c.clear.new.self c.put_bytes.new.self c.args.b (0 + length c.args.bytes.now) c.clear.ensures.rest c.put_bytes.ensures.rest
