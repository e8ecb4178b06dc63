use Rattle.std.proofs.Common.{◌≡◌, ◌+◌, ◌≤◌, [], ◌∷◌, ◌++◌, List, length}
use Rattle.rtrb.specs.Ring.{sent, known_free}
use Rattle.ados_port.specs.steps.RingEnds.{ring_of, room_in}
use Rattle.ados_port.proofs.ring.Outlet.post_waiting.Given as goal

abbrev pub invariant-loop : goal.invariant-loop
invariant-loop g l = record {
  ring : ring_of l.self-inside.producer.end ≡ l.fn.self.ring;
  posts : (xs : List g.row.T.Denot) × (l.fn.self.waiting ≡ xs ++ l.self-inside.waiting.items) × (length xs ≡ l.counter) × (sent l.self-inside.producer ≡ l.fn.self.posted ++ xs);
  looks : l.self-inside.looks ≡ l.fn.self.looks ++ l.free ∷ [];
  room : l.fn.self.room ≤ room_in l.self-inside.waiting;
  free : l.free ≤ known_free l.self-inside.producer + l.counter;
}
