use Rattle.ados_faults.proofs.Common.{◌≡◌, ◌<◌, ℕ, Some, slice_get, AreMet, AreAllSeen, IsFileNoted, AreNoted, AreStillNoted, AreTails}
use Rattle.ados_faults.proofs.files.look_at_files.Given as goal

abbrev pub invariant-loop-file : goal.invariant-loop-file
invariant-loop-file l = record {
  noted : AreNoted l.image l.notes.cells.items;
  stays : AreStillNoted l.fn.notes.cells.items l.notes.cells.items;
  met : AreMet l.image l.headers.listed.has.items l.headers.listed.list.items;
  seen : AreAllSeen l.image l.notes.cells.items l.known.seen.items;
  tails : AreTails l.image l.notes.cells.items l.known.tails.items;
  each : (k file : ℕ) → k < l.file-index → slice_get l.file-items k ≡ Some file → IsFileNoted l.image l.notes.cells.items file;
}
