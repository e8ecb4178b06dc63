use Rattle.ados_faults.proofs.Common.{AreLookedAt, AreNoted, AreStillNoted}
use Rattle.ados_faults.proofs.looks.look_at_all.Given as goal

abbrev pub invariant-loop-step : goal.invariant-loop-step
invariant-loop-step l = record {
  noted : AreNoted l.image l.notes.cells.items;
  stays : AreStillNoted l.fn.notes.cells.items l.notes.cells.items;
  looked : AreLookedAt l.image l.notes.cells.items l.steps l.step-index;
}
