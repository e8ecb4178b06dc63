use Rattle.std.proofs.Common.{◌≡◌, ◌≤◌, ◌<◌, ℕ, Some, slice_get}
use Rattle.ados_port.specs.steps.Sending.{EachGetsRoom}
use Rattle.ados_port.proofs.outlets.reserve_all.Given as goal

abbrev pub invariant-loop-i : goal.invariant-loop-i
invariant-loop-i g l = record {
  same : EachGetsRoom l.initial.outlets.items l.outlets.items;
  room : (k : ℕ) (o : _) → k < l.i → slice_get l.outlets.items k ≡ Some o → l.more ≤ o.room;
}
