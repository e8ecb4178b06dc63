use Rattle.std.proofs.Common.{◌<◌}
use Rattle.ados_port.specs.Batches.{ServesSome, LastFoundNothing}
use Rattle.ados_port.specs.Rings.{EachLooked}
use Rattle.ados_port.proofs.handler.HandlerEnd.serve_until_closed.Given as goal

abbrev pub invariant-loop : goal.invariant-loop
invariant-loop g l = record {
  served : ServesSome g.S.Server.gives l.moment l.fn.self l.self;
  idle : l.idle < l.idle_limit;
  takes : LastFoundNothing l.idle l.self;
  looked : EachLooked l.idle l.fn.self.outlets l.self.outlets;
}
