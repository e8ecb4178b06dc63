use Rattle.ados_port.specs.Grown.{Grown}
use Rattle.cases.proofs.putter.PutterClient.run.Given as goal

abbrev pub invariant-loop-packet : goal.invariant-loop-packet
invariant-loop-packet g l = Grown l.fn.end l.end
