-- One more client's end, what it shows of the mark, and what the handler's end leaves to a gathering.
use Rattle.std.specs.Prelude.{◌≡◌, ◌⊎◌, ℕ, Bool, true, List, [], ◌∷◌, ◌++◌, length, Some, slice_get}
use Rattle.std.specs.List.{list_any}
use Rattle.ados_port.specs.Lawful.{packets_of}
use Rattle.ados_port.specs.Rings.{OutView}
use Rattle.ados_port.specs.Ends.{ClientView, HandlerView, IsFresh, IsEndOf}
use Rattle.ados_port.specs.steps.QueueEnds.{TakeView}

module _ {Q M A : Type 0} where
  -- this end knows of the close only if the server has died or it took a closing reply
  abbrev pub Heard : (A → Bool) → Bool → ClientView Q M A → Type 0
  Heard is_closing died c = c.knows ≡ true → (died ≡ true) ⊎ (list_any (λ x. is_closing x.1) c.taken ≡ true)

  -- the same for all clients
  abbrev pub AllHeard : (A → Bool) → Bool → List (ClientView Q M A) → Type 0
  AllHeard is_closing died cs = (k : ℕ) (c : ClientView Q M A) → slice_get cs k ≡ Some c → Heard is_closing died c

module _ {S Q M A : Type 0} where
  -- this outlet was added as the last one: it is empty, it is this client's, and its ring has this many places
  abbrev pub AddsOutlet : ℕ → HandlerView S Q M A → HandlerView S Q M A → ClientView Q M A → OutView (M × A) → Type 0
  AddsOutlet ring old new end o =
      (new ≡ record old { outlets = old.outlets ++ o ∷ [] }) × (o.posted ≡ []) × (o.waiting ≡ []) × IsEndOf new (length old.outlets) end
      × (o.places ≡ ring)

  -- one more client: its end is fresh, and its outlet was added
  abbrev pub AddsClientEnd : ℕ → HandlerView S Q M A → HandlerView S Q M A → ClientView Q M A → Type 0
  AddsClientEnd ring old new end = IsFresh end × ((o : OutView (M × A)) × AddsOutlet ring old new end o)

  -- this queue's end took the served packets, by the handler's takes, and no client is gathered
  abbrev pub IsQueueOf : HandlerView S Q M A → TakeView Q → Type 0
  IsQueueOf h q = (q.port ≡ h.port) × (q.taken ≡ packets_of h.served) × (q.known ≡ []) × (q.clients ≡ length h.outlets) × (q.takes ≡ h.takes)
