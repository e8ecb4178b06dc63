use Rattle.ados_faults.proofs.Common.{ℕ, ◌<◌, AreKept, IsPassed, IsWalked}
use Rattle.ados_faults.proofs.walk.Walk.go_through.Given as goal

abbrev pub invariant-loop-i : goal.invariant-loop-i
invariant-loop-i l = record {
  walked : IsWalked l.image l.self.notes.cells.items l.self.marks.items l.self.roles.cells.items l.self.steps.items;
  kept : AreKept l.fn.self l.self;
  below : (k : ℕ) → k < l.i → IsPassed l.image l.self l.step k;
}
