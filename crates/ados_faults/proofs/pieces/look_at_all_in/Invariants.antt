use Rattle.ados_faults.proofs.Common.{◌<◌, ℕ, IsOneNoted, AreNoted, AreStillNoted}
use Rattle.ados_faults.proofs.pieces.look_at_all_in.Given as goal

abbrev pub invariant-loop-i : goal.invariant-loop-i
invariant-loop-i l = record {
  noted : AreNoted l.image l.notes.cells.items;
  stays : AreStillNoted l.fn.notes.cells.items l.notes.cells.items;
  placed : (k : ℕ) → k < l.i → IsOneNoted l.image l.notes.cells.items l.piece k;
}
