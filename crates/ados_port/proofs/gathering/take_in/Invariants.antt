use Rattle.std.proofs.Common.{◌≡◌, ◌<◌, ◌++◌, ℕ, map, length, Some, slice_get}
use Rattle.ados_port.specs.steps.Rooms.{SameFrom, LeftAt}
use Rattle.ados_port.proofs.gathering.take_in.Given as goal

abbrev pub invariant-loop-client : goal.invariant-loop-client
invariant-loop-client g l = record {
  all : l.yielded ++ l.client-iterator.rest.items ≡ l.fn.clients.items;
  k : l.k ≡ length l.yielded;
  queue : l.queue ≡ record l.fn.queue { known = map (λ c. c.put) l.yielded };
  outlets : SameFrom l.k l.fn.outlets.items l.outlets.items;
  untaken : SameFrom l.k l.fn.untaken.items l.untaken.items;
  done : (j : ℕ) (c : _) (o : _) → j < l.k → slice_get l.fn.clients.items j ≡ Some c → slice_get l.fn.outlets.items j ≡ Some o → LeftAt j c o l.untaken.items;
}
