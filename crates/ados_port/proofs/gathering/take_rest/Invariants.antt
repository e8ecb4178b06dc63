use Rattle.std.proofs.Common.{◌≡◌, ◌++◌, map, Some, vec_capacity}
use Rattle.ados_port.proofs.gathering.take_rest.Given as goal

abbrev pub invariant-loop : goal.invariant-loop
invariant-loop g l = record {
  queue : l.queue ≡ record l.fn.queue { taken = l.fn.queue.taken ++ l.unanswered.items; takes = l.fn.queue.takes ++ map Some l.unanswered.items };
  room : vec_capacity l.unanswered ≡ vec_capacity l.fn.unanswered;
}
