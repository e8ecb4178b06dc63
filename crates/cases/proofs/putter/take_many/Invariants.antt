use Rattle.ados_port.specs.Grown.{Grown}
use Rattle.cases.proofs.putter.take_many.Given as goal

abbrev pub invariant-loop : goal.invariant-loop
invariant-loop g l = Grown l.fn.end l.end
