use Rattle.std.proofs.Common.{◌≡◌, ◌+◌, ◌++◌, List, length, vec_len, vec_capacity}
use Rattle.rtrb.specs.Ring.{known_items}
use Rattle.ados_port.specs.Lawful.{numbered}
use Rattle.ados_port.specs.Gathering.{answers}
use Rattle.ados_port.proofs.ring.drain_ring.Given as goal

abbrev pub invariant-loop : goal.invariant-loop
invariant-loop g l = record {
  items : (xs : List (g.row.M.Denot × g.row.A.Denot)) × (known_items l.fn.consumer ≡ xs ++ known_items l.consumer) × (length xs ≡ l.counter) × (l.into.items ≡ l.fn.into.items ++ numbered (l.fn.number + 1) (answers xs));
  number : l.number ≡ l.fn.number + l.counter;
  len : vec_len l.into ≡ vec_len l.fn.into + l.counter;
  room : vec_capacity l.into ≡ vec_capacity l.fn.into;
}
