use Rattle.ados_salvage.specs.Saved.{IsPieced}
use Rattle.ados_salvage.proofs.pieces.pieced.Given as goal

abbrev pub invariant-loop-at : goal.invariant-loop-at
invariant-loop-at l = IsPieced l.image l.pieces l.place l.count l.bytes.items
