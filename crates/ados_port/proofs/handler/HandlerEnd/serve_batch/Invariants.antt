use Rattle.std.proofs.Common.{◌-◌, ◌≡◌}
use Rattle.ados_port.specs.Rings.{EachOffersFirst}
use Rattle.ados_port.specs.steps.Sending.{EachHasRoom}
use Rattle.ados_port.specs.steps.Views.{Agree, handler_view}
use Rattle.ados_port.specs.Batches.{ServesSoMany}
use Rattle.ados_port.proofs.Takes.{FoundEach}
use Rattle.ados_port.proofs.handler.HandlerEnd.serve_batch.Given as goal

abbrev pub invariant-loop : goal.invariant-loop
invariant-loop g l = record {
  agree : Agree l.self-inside.queue l.self-inside.desk l.self-inside.outlets.items;
  room : EachHasRoom (l.limit - l.counter) l.self-inside.outlets.items;
  count : l.served ≡ l.counter;
  served : ServesSoMany g.S.Server.gives l.moment l.fn.self l.served (handler_view l.self-inside.queue l.self-inside.desk l.self-inside.outlets.items);
  takes : FoundEach l.fn.self.served l.fn.self.takes l.served l.self-inside.desk.served l.self-inside.queue.takes;
  first : EachOffersFirst l.fn.self.outlets l.self-inside.outlets.items;
}
