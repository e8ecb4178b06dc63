use Rattle.std.proofs.Common.{arith}
use Rattle.adf_io.proofs.Parts.{count_part}
use Rattle.adf_io.proofs.input.count_rest.Goals as goal

pub loop-turn-preserved : goal.loop-turn-preserved
loop-turn-preserved g c =
    let some = c.in_ok-read.ensures in
    count_part _ _ _ _ _ c.in_ok-read.read c.read_some.new.chunk c.loop-turn.invariant some.bytes.0 some.bound.0 (omega (arith, some.bound.0, c.read_some.auto.chunk)) (omega (arith, c.if-read-eq0.false))
