-- The rule of the port: for each client, its packets in the handler's taken list and then its packets in the queue are
-- its put list.
use Rattle.std.specs.Prelude.{◌≡◌, ℕ, ◌+◌, ◌<◌, ◌≤◌, true, false, List, [], ◌∷◌, ◌++◌, length, Some, slice_get}
use mathlib.Core.Option.{some}
use lib.ListN.{get_elem?}
use Rattle.ados_port.specs.declared.seat.Seat.{Seat}
use Rattle.ados_port.specs.History.{packets_by}
use Rattle.ados_port.specs.Ends.{OfClients}

module _ {Q : Type 0} where
  -- the number of packets in these lists together
  abbrev pub total : List (List Q) → ℕ
  total [] = 0
  total (put ∷ puts) = length put + total puts

  -- these lists are the put lists of the first clients, each the client's part of these packets
  abbrev pub ArePutLists : List (List Q) → List (ℕ × Q) → Type 0
  ArePutLists puts packets = (k : ℕ) (put : List Q) → slice_get puts k ≡ Some put → put ≡ packets_by (k + 1) packets

  -- the handler's pass: the number of clients, the taken packets, and the put lists of gathered clients
  abbrev pub handler : ℕ → List (ℕ × Q) → List (List Q) → Seat Q
  handler n taken known = record { handles = true; number = n; put = []; taken = taken; known = known }

  -- the handler's pass took this client's packet; if all clients are gathered, no more packets were taken than they put
  abbrev pub TakesOne : Seat Q → ℕ × Q → Seat Q → Type 0
  TakesOne v x w =
      (w ≡ handler v.number (v.taken ++ x ∷ []) v.known)
      × (1 ≤ x.0) × (x.0 ≤ v.number) × (length v.known ≡ v.number → length w.taken ≤ total v.known)

  -- a client's pass: its number and its put list
  abbrev pub client : ℕ → List Q → Seat Q
  client k put = record { handles = false; number = k; put = put; taken = []; known = [] }

  -- the pass of client k, which is not gathered: its put list is its packets
  abbrev pub IsClients : List (ℕ × Q) → ℕ → ℕ → Seat Q → Type 0
  IsClients all gathered k v = (v.number ≡ k) × (gathered < k) × (v.put ≡ packets_by k all)

  -- the pass of client k. A spent pass has number 0, and its client is gathered
  abbrev pub FitsClient : List (ℕ × Q) → ℕ → ℕ → Seat Q → Type 0
  FitsClient all gathered k v = (v.handles ≡ false) × (0 < v.number → IsClients all gathered k v) × (v.number ≡ 0 → k ≤ gathered)

  -- the first pass is the handler's, and client k has pass k
  abbrev pub PortRule : List (ℕ × Q) → List (Seat Q) → Type 0
  PortRule items [] = ⊥
  PortRule items (h ∷ cs) = (h.handles ≡ true) × (length cs ≡ h.number) × (length h.known ≤ h.number) × OfClients h.number (h.taken ++ items)
      × ((k : ℕ) (v : Seat Q) → get_elem? cs k ≡ some v → FitsClient (h.taken ++ items) (length h.known) (k + 1) v)
      × ArePutLists h.known (h.taken ++ items)
