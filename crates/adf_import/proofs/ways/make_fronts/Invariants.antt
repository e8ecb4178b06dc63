use Rattle.adf_import.proofs.Reaching.{AreMade}
use Rattle.adf_import.proofs.ways.make_fronts.Given as goal

-- the directories on the way that end before this byte are made
abbrev pub invariant-loop-at : goal.invariant-loop-at
invariant-loop-at l = AreMade l.moment l.path l.at l.known l.initial.volume l.volume
