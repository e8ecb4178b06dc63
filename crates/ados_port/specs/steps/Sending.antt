-- The effect of one reply on the rings, and the room that it needs.
use Rattle.std.specs.Prelude.{◌≡◌, ℕ, ◌+◌, ◌≤◌, List, ◌++◌, ◌∷◌, [], ◌==◌, if◌then◌else◌, Some, slice_get}
use Rattle.ados_port.specs.Rings.{RingId, OutView, all_of, StaysPosted, Each}

-- the elements taken off the ring
pub record InView (T : Type 0) : Type 0 where
  pub ring : RingId
  pub taken : List T

-- x was sent to this client, and nothing to the others. At most one more reply waits
abbrev pub SendsTo : {T : Type 0} → ℕ → T → ℕ → OutView T → OutView T → Type 0
SendsTo client x k old new =
    StaysPosted old new
    × (all_of new ≡ (if client == k + 1 then all_of old ++ x ∷ [] else all_of old)) × (old.room ≤ new.room + 1)
    × (new.looks ≡ old.looks)

-- each outlet has room for n more waiting replies
abbrev pub EachHasRoom : {T : Type 0} → ℕ → List (OutView T) → Type 0
EachHasRoom {T} n os = (k : ℕ) (o : OutView T) → slice_get os k ≡ Some o → n ≤ o.room

-- at most one more reply waits at each outlet
abbrev pub UsesOne : {T : Type 0} → List (OutView T) → List (OutView T) → Type 0
UsesOne old new = Each (λ _ o p. o.room ≤ p.room + 1) old new

-- the room for waiting replies may have grown, and nothing else changed
abbrev pub GetsRoom : {T : Type 0} → OutView T → OutView T → Type 0
GetsRoom old new = (new ≡ record old { room = new.room }) × (old.room ≤ new.room)

-- the same for each outlet
abbrev pub EachGetsRoom : {T : Type 0} → List (OutView T) → List (OutView T) → Type 0
EachGetsRoom old new = Each (λ _ o p. GetsRoom o p) old new
