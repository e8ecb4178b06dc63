use Rattle.adf_block.proofs.Common.{length, ap, arith, length-take}
use Rattle.adf_block.proofs.code.boot_bytes.Goals as goal

pub slice_bounds-result-end : goal.slice_bounds-result-end
slice_bounds-result-end c = omega (arith, length-take 1024 c.as_bytes.result.now, ap length c.as_bytes.ensures, c.blocks-2.ensures.whole, c.if-prove.false)

pub returns-clause-length : goal.returns-clause-length
returns-clause-length c = omega (arith, length-take 1024 c.as_bytes.result.now, ap length c.as_bytes.ensures, c.blocks-2.ensures.whole, c.if-prove.false)
