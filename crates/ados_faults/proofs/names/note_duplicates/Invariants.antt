use Rattle.ados_faults.proofs.Common.{◌≡◌, ◌<◌, ℕ, Some, slice_get, AreListedNoted, AreMet, AreNamesMet, AreNamesNoted, AreNoted, AreStillNoted}
use Rattle.ados_faults.proofs.names.note_duplicates.Given as goal

abbrev pub invariant-loop-dir : goal.invariant-loop-dir
invariant-loop-dir l = record {
  noted : AreNoted l.image l.notes.cells.items;
  stays : AreStillNoted l.fn.notes.cells.items l.notes.cells.items;
  met : AreNamesMet l.image l.met.items;
  entries : AreMet l.image l.entries.has.items l.entries.list.items;
  listed : AreListedNoted l.image l.notes.cells.items l.entries.list.items;
  each : (k dir : ℕ) → k < l.dir-index → slice_get l.dir-items k ≡ Some dir → AreNamesNoted l.image l.notes.cells.items dir;
}
