use Rattle.ados_faults.proofs.Common.{◌-◌, length, AreAllSeen, AreNoted, AreStillNoted, AreTails, IsAlongFile}
use Rattle.ados_faults.proofs.pieces.look_along.Given as goal

abbrev pub invariant-loop-passed : goal.invariant-loop-passed
invariant-loop-passed l = record {
  noted : AreNoted l.image l.notes.cells.items;
  stays : AreStillNoted l.fn.notes.cells.items l.notes.cells.items;
  seen : AreAllSeen l.image l.notes.cells.items l.known.seen.items;
  tails : AreTails l.image l.notes.cells.items l.known.tails.items;
  along : IsAlongFile l.image l.notes.cells.items l.file (length l.headers.listed.list.items - l.passed) l.position l.summary;
}
