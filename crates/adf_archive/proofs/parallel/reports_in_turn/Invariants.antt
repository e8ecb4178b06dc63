use Rattle.adf_archive.specs.Each.{GivesFrom}
use Rattle.adf_archive.proofs.parallel.reports_in_turn.Given as goal

-- the first `i` reports
abbrev pub invariant-loop-i : goal.invariant-loop-i
invariant-loop-i g l = GivesFrom g.C.Fn l.report l.start l.i l.reports.items
