-- The visible state of the sending ends of the reply rings.
use Rattle.std.specs.Prelude.{◌≡◌, ℕ, ◌+◌, ◌≤◌, List, [], ◌∷◌, ◌++◌, take, drop, length, Some, slice_get}
use Rattle.std.specs.List.{sum_by}
use Rattle.std.specs.declared.alloc.Global.{Global}
use denote.RawPtr.{Ptr}

-- which ring
pub record RingId : Type 0 where
  pub words : Ptr
  pub slots : Ptr
  pub names : ℕ × (ℕ × ℕ)
  pub heap : Global

-- the number of places of the ring, the posted replies, the replies that wait beside the ring, the room left in the
-- list beside it, and how many free places each look at the ring found for waiting replies
pub record OutView (T : Type 0) : Type 0 where
  pub ring : RingId
  pub places : ℕ
  pub posted : List T
  pub waiting : List T
  pub room : ℕ
  pub looks : List ℕ

-- everything sent: posted replies, then waiting ones
abbrev pub all_of : {T : Type 0} → OutView T → List T
all_of o = o.posted ++ o.waiting

-- a look found this many free places, and the first waiting replies were posted into them, in order
abbrev pub PostsFound : {T : Type 0} → ℕ → OutView T → OutView T → Type 0
PostsFound found old new =
    (new.looks ≡ old.looks ++ found ∷ []) × (new.posted ≡ old.posted ++ take found old.waiting) × (new.waiting ≡ drop found old.waiting)

-- waiting replies were offered to the ring, and no room is lost
abbrev pub Offers : {T : Type 0} → OutView T → OutView T → Type 0
Offers old new = (new.ring ≡ old.ring) × ((found : ℕ) × PostsFound found old new) × (old.room ≤ new.room)

-- waiting replies were offered to the ring before anything else was posted
abbrev pub OffersFirst : {T : Type 0} → OutView T → OutView T → Type 0
OffersFirst {T} old new =
    (found : ℕ) × (more : List T)
    × (new.looks ≡ old.looks ++ found ∷ []) × (new.posted ≡ (old.posted ++ take found old.waiting) ++ more)

-- the same ring, and posted replies stay posted
abbrev pub StaysPosted : {T : Type 0} → OutView T → OutView T → Type 0
StaysPosted {T} old new = (new.ring ≡ old.ring) × ((xs : List T) × (new.posted ≡ old.posted ++ xs))

-- the same outlets in the same order; R k relates the k-th ones
abbrev pub Each : {T : Type 0} → (ℕ → OutView T → OutView T → Type 0) → List (OutView T) → List (OutView T) → Type 0
Each {T} R old new = (length new ≡ length old) × ((k : ℕ) (o : OutView T) → slice_get old k ≡ Some o → (p : OutView T) × (slice_get new k ≡ Some p) × R k o p)

-- for each outlet, waiting replies were offered to its ring
abbrev pub EachOffers : {T : Type 0} → List (OutView T) → List (OutView T) → Type 0
EachOffers old new = Each (λ _ o p. Offers o p) old new

-- for each outlet, waiting replies were offered to its ring before anything else was posted
abbrev pub EachOffersFirst : {T : Type 0} → List (OutView T) → List (OutView T) → Type 0
EachOffersFirst old new = Each (λ _ o p. OffersFirst o p) old new

-- for each outlet, posted replies stay posted
abbrev pub EachStaysPosted : {T : Type 0} → List (OutView T) → List (OutView T) → Type 0
EachStaysPosted old new = Each (λ _ o p. StaysPosted o p) old new

-- the number of replies that wait at all outlets together
abbrev pub waiting_count : {T : Type 0} → List (OutView T) → ℕ
waiting_count os = sum_by (λ o. length o.waiting) os

-- each ring has this many places
abbrev pub HavePlaces : {T : Type 0} → ℕ → List (OutView T) → Type 0
HavePlaces {T} places os = (k : ℕ) (o : OutView T) → slice_get os k ≡ Some o → o.places ≡ places

-- each ring was looked at for waiting replies at least this many times more
abbrev pub EachLooked : {T : Type 0} → ℕ → List (OutView T) → List (OutView T) → Type 0
EachLooked times old new = Each (λ _ o p. length o.looks + times ≤ length p.looks) old new

-- no reply was posted or waits
abbrev pub AreEmpty : {T : Type 0} → List (OutView T) → Type 0
AreEmpty {T} os = (k : ℕ) (o : OutView T) → slice_get os k ≡ Some o → (o.posted ≡ []) × (o.waiting ≡ [])
