use Rattle.ados_faults.proofs.Common.{AreFirstMet, AreNamesMet, AreNoted, AreStillNoted}
use Rattle.ados_faults.proofs.names.note_names.Given as goal

abbrev pub invariant-loop-entry : goal.invariant-loop-entry
invariant-loop-entry l = record {
  noted : AreNoted l.image l.notes.cells.items;
  stays : AreStillNoted l.fn.notes.cells.items l.notes.cells.items;
  named : AreNamesMet l.image l.met;
  met : AreFirstMet l.notes.cells.items l.met l.first l.dir l.entries l.entry-index;
}
