-- The ring of an end, and the room of the list beside it.
use Rattle.std.specs.Prelude.{ℕ, ◌-◌}
use Rattle.std.specs.VecDeque.{deque_capacity, deque_len}
use Rattle.std.specs.declared.collections.VecDeque.{VecDeque}
use Rattle.rtrb.specs.declared.end.End.{End}
use Rattle.std.specs.declared.alloc.Global.{Global}
use Rattle.ados_port.specs.Rings.{RingId}

-- which ring it is
abbrev pub ring_of : {T P : Type 0} → End T Global P → RingId
ring_of e = record { words = e.words; slots = e.slots; names = e.names; heap = e.heap }

-- how many more elements the list has room for
abbrev pub room_in : {T : Type 0} → VecDeque T Global → ℕ
room_in list = deque_capacity list - deque_len list
