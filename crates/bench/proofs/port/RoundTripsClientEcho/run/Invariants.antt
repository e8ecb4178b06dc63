use Rattle.ados_port.specs.Grown.{Grown}
use Rattle.bench.proofs.port.RoundTripsClientEcho.run.Given as goal

abbrev pub invariant-loop-number : goal.invariant-loop-number
invariant-loop-number g l = Grown l.fn.end l.end
