use Rattle.ados_port.specs.Batches.{ServesSome}
use Rattle.ados_port.proofs.serve.serve_until_ended.Given as goal

abbrev pub invariant-loop : goal.invariant-loop
invariant-loop g l = ServesSome g.S.Server.gives l.moment l.fn.handler l.handler
