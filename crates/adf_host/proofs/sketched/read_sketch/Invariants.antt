use Rattle.adf_host.proofs.Sketching.{TakesDown}
use Rattle.adf_host.proofs.sketched.read_sketch.Given as goal

abbrev pub invariant-loop-rest : goal.invariant-loop-rest
invariant-loop-rest g l = TakesDown l.blocks (g.R.Read.remaining l.initial.reader) (g.R.Read.remaining l.reader) l.sketch l.piece.items l.rest

abbrev pub decreases-loop-rest : goal.decreases-loop-rest
decreases-loop-rest g l = l.rest
