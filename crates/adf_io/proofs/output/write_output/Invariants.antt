use Rattle.adf_io.proofs.Puts.{Took}
use Rattle.adf_io.proofs.output.write_output.Given as goal

abbrev pub invariant-loop : goal.invariant-loop
invariant-loop g l = Took (g.W.Write.contents l.initial.writer) (g.W.Write.contents l.writer) l.bytes l.written
