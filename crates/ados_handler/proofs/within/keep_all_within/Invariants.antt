use Rattle.ados_model.specs.Phrases.{within}
use Rattle.ados_handler.specs.steps.Positions.{MovesBelow}
use Rattle.ados_handler.proofs.within.keep_all_within.Given as goal

-- the handles below this place are moved
abbrev pub invariant-loop-place : goal.invariant-loop-place
invariant-loop-place l = MovesBelow (within l.key l.size) l.place l.fn.holds l.holds
