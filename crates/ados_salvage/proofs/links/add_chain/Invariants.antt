use Rattle.std.proofs.Common.{◌≡◌, ◌≤◌, length}
use Rattle.ados_salvage.proofs.links.add_chain.Given as goal

abbrev pub invariant-loop-nth : goal.invariant-loop-nth
invariant-loop-nth l = record {
  size : length l.passed.items ≡ length l.initial.passed.items;
  behind : l.start ≤ length l.links.items;
}
