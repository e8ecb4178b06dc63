use Rattle.ados_map.proofs.Common.{arith, sym, ◌∙◌, ones-le}
use Rattle.ados_map.proofs.Counting.{free_before-none, free_before-more, free_before-all}
use Rattle.ados_map.proofs.reading.count_free.Goals as goal

pub loop-w-init : goal.loop-w-init
loop-w-init c = record { counted = sym (free_before-none c.args.image.now); bound = omega arith }

pub loop-w-preserved : goal.loop-w-preserved
loop-w-preserved c =
    let more = free_before-more c.args.image.now c.loop-w.w c.free_bits.result c.free_bits.ensures c.free_bits.type_inv in
    record { counted = omega (arith, more); bound = omega (arith, ones-le 32 c.free_bits.result c.free_bits.type_inv) }

pub returns : goal.returns
returns c = c.loop-w.invariant.counted ∙ free_before-all c.args.image.now c.loop-w.w (omega arith)
