use Rattle.ados_faults.proofs.Common.{◌-◌, ◌^◌, AreVisited, IsWalked}
use Rattle.ados_faults.proofs.walk.walked.Given as goal

abbrev pub invariant-loop-i : goal.invariant-loop-i
invariant-loop-i l = record {
  walked : IsWalked l.image l.walk.notes.cells.items l.walk.marks.items l.walk.roles.cells.items l.walk.steps.items;
  visited : AreVisited l.image l.walk l.i;
}

abbrev pub decreases-loop-i : goal.decreases-loop-i
decreases-loop-i l = 2 ^ 64 - l.i
