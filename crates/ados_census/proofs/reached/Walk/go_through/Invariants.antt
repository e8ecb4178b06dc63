use Rattle.std.proofs.Common.{ℕ, ◌<◌}
use Rattle.ados_census.specs.steps.Reaching.{AreKept, AreWalked, IsPassed}
use Rattle.ados_census.proofs.reached.Walk.go_through.Given as goal

abbrev pub invariant-loop-i : goal.invariant-loop-i
invariant-loop-i l = record {
  walked : AreWalked l.image l.self.cells.items l.self.steps.items;
  kept : AreKept l.fn.self l.self;
  below : (k : ℕ) → k < l.i → IsPassed l.image l.self.cells.items l.step k;
}
