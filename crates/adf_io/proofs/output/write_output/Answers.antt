use Rattle.std.proofs.lemmas.List.{take_rest}
use Rattle.adf_io.proofs.Puts.{took_nothing, took_more, took_none, took_no_more, took_all}
use Rattle.adf_io.proofs.output.write_output.Goals as goal

pub loop-init : goal.loop-init
loop-init g c = took_nothing _ _

pub returns-then-written-bytes-clause-ok : goal.returns-then-written-bytes-clause-ok
returns-then-written-bytes-clause-ok g c = took_all _ _ _ _ c.loop.invariant c.if-written-bytes.true

pub returns-then-count-eq0-clause-prefix : goal.returns-then-count-eq0-clause-prefix
returns-then-count-eq0-clause-prefix g c = (took_none _ _ _ _ _ _ _ c.loop.invariant c.if-count-eq0.true c.in-Ok.ensures.bytes).appended

pub loop-preserved-in-Err : goal.loop-preserved-in-Err
loop-preserved-in-Err g c = took_no_more _ _ _ _ _ c.loop.invariant c.in-Err.ensures.bytes

pub returns-in-Err-2-clause-prefix : goal.returns-in-Err-2-clause-prefix
returns-in-Err-2-clause-prefix g c = (took_no_more _ _ _ _ _ c.loop.invariant c.in-Err-2.ensures.bytes).appended

pub loop-preserved : goal.loop-preserved
loop-preserved g c = took_more _ _ _ _ _ _ _ c.loop.invariant (take_rest c.args.bytes.now c.loop.written) c.in-Ok.ensures.bound c.in-Ok.ensures.bytes

pub returns-clause-prefix : goal.returns-clause-prefix
returns-clause-prefix g c = c.loop.invariant.appended

pub returns-clause-within : goal.returns-clause-within
returns-clause-within g c = c.loop.invariant.within
