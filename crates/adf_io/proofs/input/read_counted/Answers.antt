use Rattle.std.proofs.Common.{ap, refl, arith}
use Rattle.adf_io.proofs.Inputs.{as_fault, counted_short, counted_rest, no_end_behind}
use Rattle.adf_io.proofs.input.read_counted.Goals as goal

pub returns-then-len-most-clause-bytes : goal.returns-then-len-most-clause-bytes
returns-then-len-most-clause-bytes g c = counted_short _ _ _ _ _ _ c.in_ok-front.ensures.items c.in_ok-reads.ensures.read (omega (arith, c.if-len-most.true, c.len.ensures)) refl

pub returns-in-Ok-clause-bytes : goal.returns-in-Ok-clause-bytes
returns-in-Ok-clause-bytes g c = counted_rest _ _ _ _ _ _ _ c.in_ok-front.ensures.items c.in_ok-reads.ensures.read (omega (arith, c.if-len-most.false, c.len.ensures)) c.in-Ok.ensures.read

pub returns-in-Err-clause-endless : goal.returns-in-Err-clause-endless
returns-in-Err-clause-endless g c = λ endless. no_end_behind _ _ _ _ _ _ _ _ c.in_ok-reads.ensures.read (c.in-Err.ensures.endless (ap as_fault endless)) (omega (arith, c.in_ok-reads.ensures.within))
