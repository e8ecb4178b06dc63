use Rattle.adf_io.proofs.Parts.{Counts}
use Rattle.adf_io.proofs.input.count_rest.Given as goal

abbrev pub invariant-loop-turn : goal.invariant-loop-turn
invariant-loop-turn g l = Counts (g.R.Read.remaining l.initial.reader) (g.R.Read.remaining l.reader) l.count l.turn
