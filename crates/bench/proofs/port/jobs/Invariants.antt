use Rattle.std.proofs.Common.{◌≡◌, length}
use Rattle.bench.proofs.port.jobs.Given as goal

abbrev pub invariant-loop : goal.invariant-loop
invariant-loop l = length l.jobs.items ≡ l.counter
