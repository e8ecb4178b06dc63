-- The effect of the calls of the queue's ends.
use Rattle.std.specs.Prelude.{◌≡◌, ◌⊎◌, ℕ, ◌+◌, ◌≤◌, true, false, [], ◌∷◌, ◌++◌, Some, None, length}
use Rattle.ados_port.specs.Ends.{OfClients}
use Rattle.ados_port.specs.steps.QueueEnds.{PutView, TakeView}
use Rattle.ados_port.specs.steps.Rule.{ArePutLists, total}

module _ {Q : Type 0} where
  -- a packet was put: it is the last one put, and its number is the count of puts
  abbrev pub AddsPacket : PutView Q → Q → PutView Q → ℕ → Type 0
  AddsPacket old packet new number =
      (new ≡ record old { put = old.put ++ packet ∷ []; full = false }) × (number ≡ length new.put)

  -- a packet was handed back, and nothing was put: the queue is full, or the count of puts is at its maximum
  abbrev pub HandsBack : PutView Q → Q → PutView Q → Q → Type 0
  HandsBack old packet new back =
      (back ≡ packet) × (new ≡ record old { full = new.full })
      × ((new.full ≡ true) ⊎ (length old.put ≡ 18446744073709551615))

  -- one more client: its end has the next number, and has put nothing
  abbrev pub AddsPutEnd : TakeView Q → TakeView Q → PutView Q → Type 0
  AddsPutEnd old new end =
      (end ≡ record { port = old.port; number = old.clients + 1; put = []; full = end.full })
      × (new ≡ record old { clients = old.clients + 1 })

  -- a take found a client's packet; if all clients are gathered, no more packets were taken than they put
  abbrev pub TakesPacket : TakeView Q → TakeView Q → ℕ × Q → Type 0
  TakesPacket old new packet =
      (new ≡ record old { taken = old.taken ++ packet ∷ []; takes = old.takes ++ Some packet ∷ [] })
      × (1 ≤ packet.0) × (packet.0 ≤ old.clients) × (length old.known ≡ old.clients → length new.taken ≤ total old.known)

  -- a take found nothing: the taken packets are the clients', and include everything that gathered clients put
  abbrev pub FindsNothing : TakeView Q → TakeView Q → Type 0
  FindsNothing old new = (new ≡ record old { takes = old.takes ++ None ∷ [] }) × OfClients old.clients old.taken × ArePutLists old.known old.taken
