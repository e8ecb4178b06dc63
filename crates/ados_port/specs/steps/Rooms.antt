-- Room that is reserved before the ends of a port are gathered, and what each end leaves in it.
use Rattle.std.specs.Prelude.{◌≡◌, ◌≢◌, ℕ, ◌+◌, ◌<◌, ◌≤◌, ◌^◌, List, [], ◌++◌, length, Some, slice_get, vec_capacity, Vec}
use Rattle.std.specs.declared.alloc.Global.{Global}
use Rattle.ados_port.specs.declared.step.Reply.{Reply}
use Rattle.ados_port.specs.Lawful.{numbered}
use Rattle.ados_port.specs.Rings.{OutView, all_of}
use Rattle.ados_port.specs.Ends.{ClientView}
use Rattle.ados_port.specs.Gathering.{answers}

-- only the k-th element changed
abbrev pub OnlyElement : {X : Type 0} → ℕ → List X → List X → Type 0
OnlyElement k old new = (length new ≡ length old) × ((j : ℕ) → j ≢ k → slice_get new j ≡ slice_get old j)

-- nothing changed from the k-th element on
abbrev pub SameFrom : {X : Type 0} → ℕ → List X → List X → Type 0
SameFrom k old new = (length new ≡ length old) × ((j : ℕ) → k ≤ j → slice_get new j ≡ slice_get old j)

-- all replies after these taken ones fit in this list
abbrev pub FitIn : {M A : Type 0} → List (M × A) → OutView (M × A) → Vec (Reply A) Global → Type 0
FitIn {M} {A} taken o r = (rest : List (M × A)) × (o.posted ≡ taken ++ rest) × (length rest + length o.waiting ≤ vec_capacity r)

module _ {Q M A : Type 0} where
  -- this client has this many untaken replies
  abbrev pub HasUntaken : ClientView Q M A → OutView (M × A) → ℕ → Type 0
  HasUntaken c o count = (rest : List (M × A)) × (o.posted ≡ c.taken ++ rest) × (length rest + length o.waiting ≡ count)

  -- an empty list with room for all untaken replies of this client
  abbrev pub RoomFits : ClientView Q M A → OutView (M × A) → Vec (Reply A) Global → Type 0
  RoomFits c o r = (r.items ≡ []) × FitIn c.taken o r

  -- the same for each client
  abbrev pub RoomsFit : List (ClientView Q M A) → List (OutView (M × A)) → List (Vec (Reply A) Global) → Type 0
  RoomsFit cs os rs = (length rs ≡ length cs)
      × ((k : ℕ) (c : ClientView Q M A) (o : OutView (M × A)) (r : Vec (Reply A) Global)
      → slice_get cs k ≡ Some c → slice_get os k ≡ Some o → slice_get rs k ≡ Some r → RoomFits c o r)

  -- the replies that a client took, then the untaken ones, are all that were sent to it, numbered in order
  abbrev pub Left : ClientView Q M A → List (M × A) → List (Reply A) → Type 0
  Left c sent untaken = (rest : List (M × A)) × (sent ≡ c.taken ++ rest) × (untaken ≡ numbered (length c.taken + 1) (answers rest))

  -- this is the client's outlet, and everything sent to it can be numbered
  abbrev pub IsOutletOf : ClientView Q M A → OutView (M × A) → Type 0
  IsOutletOf c o = (o.ring ≡ c.ring) × (length (all_of o) < 2 ^ 64)

  -- the same for each client
  abbrev pub AreOutletsOf : List (ClientView Q M A) → List (OutView (M × A)) → Type 0
  AreOutletsOf cs os = (k : ℕ) (c : ClientView Q M A) (o : OutView (M × A)) → slice_get cs k ≡ Some c → slice_get os k ≡ Some o → IsOutletOf c o

  -- the k-th outlet is this client's, and the k-th list has room for its untaken replies
  abbrev pub HasRoomAt : ℕ → ClientView Q M A → List (OutView (M × A)) → List (Vec (Reply A) Global) → Type 0
  HasRoomAt k c os rs = (o : OutView (M × A)) (r : Vec (Reply A) Global) → slice_get os k ≡ Some o → slice_get rs k ≡ Some r → RoomFits c o r × IsOutletOf c o

  -- the k-th list contains the untaken replies of this client
  abbrev pub LeftAt : ℕ → ClientView Q M A → OutView (M × A) → List (Vec (Reply A) Global) → Type 0
  LeftAt k c o rs = (r : Vec (Reply A) Global) × (slice_get rs k ≡ Some r) × Left c (all_of o) r.items

  -- the same for each client
  abbrev pub AllLeft : List (ClientView Q M A) → List (OutView (M × A)) → List (Vec (Reply A) Global) → Type 0
  AllLeft cs os rs = (k : ℕ) (c : ClientView Q M A) (o : OutView (M × A)) → slice_get cs k ≡ Some c → slice_get os k ≡ Some o → LeftAt k c o rs
