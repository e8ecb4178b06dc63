-- The visible state of a port's ends.
use Rattle.std.specs.Prelude.{◌≡◌, ◌⊎◌, ◌||◌, ℕ, ◌+◌, ◌≤◌, Bool, true, false, List, [], ◌∷◌, ◌++◌, length, map, filter_map, Option, Some, slice_get}
use Rattle.std.specs.declared.alloc.Global.{Global}
use Rattle.crossbeam_queue.specs.SegTies.{SegId}
use Rattle.ados_port.specs.declared.step.Reply.{Reply}
use Rattle.ados_port.specs.declared.step.PutRefused.{PutRefused}
use Rattle.ados_port.specs.declared.step.PutRefused.TheVariants.{Closed, NoRoom}
use Rattle.ados_port.specs.History.{ServerMeaning, Serving, packets_by}
use Rattle.ados_port.specs.Lawful.{packets_of, MeaningRun, AllAt}
use Rattle.ados_port.specs.Rings.{RingId, OutView, all_of, AreEmpty, EachStaysPosted, HavePlaces}

-- a client's end: its port, mark and ring, its number, its put list, its taken list with time stamps, whether it knows
-- of the close, and whether its last put found the port's queue full
pub record ClientView (Q M A : Type 0) : Type 0 where
  pub port : SegId Global
  pub mark : ℕ
  pub ring : RingId
  pub number : ℕ
  pub put : List Q
  pub taken : List (M × A)
  pub knows : Bool
  pub full : Bool

-- the handler's end: its port and mark, the opening server, the served packets, the current server, the posted and
-- waiting replies of each client, whether it knows that the mark is set, and what each take of the port's queue found: a
-- client's packet, or nothing
pub record HandlerView (S Q M A : Type 0) : Type 0 where
  pub port : SegId Global
  pub mark : ℕ
  pub opening : S
  pub served : List (Serving Q M A)
  pub server : S
  pub outlets : List (OutView (M × A))
  pub knows : Bool
  pub takes : List (Option (ℕ × Q))

-- the packets that these takes found, in order
abbrev pub found_in : {X : Type 0} → List (Option X) → List X
found_in takes = filter_map (λ found. found) takes

-- each packet belongs to one of the clients 1 to n
abbrev pub OfClients : {Q : Type 0} → ℕ → List (ℕ × Q) → Type 0
OfClients n [] = Unit {0}
OfClients n (packet ∷ packets) = (1 ≤ packet.0) × (packet.0 ≤ n) × OfClients n packets

module _ {Q M A : Type 0} where
  -- the replies to this client, in order, each with its time stamp
  abbrev pub replies_to : ℕ → List (Serving Q M A) → List (M × A)
  replies_to client served = packets_by client (map (λ s. (s.client, (s.moment, s.answer))) served)

  -- a put was accepted: the packet is the last one put, its number is the count of puts, and this end knows of no close
  abbrev pub PutAccepted : ClientView Q M A → Q → ClientView Q M A → ℕ → Type 0
  PutAccepted old packet new number =
      (new ≡ record old { put = old.put ++ packet ∷ []; knows = false; full = false }) × (number ≡ length new.put)

  -- a put was refused: the packet is handed back, as `Closed` if this end knows of the close, otherwise as `NoRoom`: the
  -- port's queue is full, or the count of puts is at its maximum
  abbrev pub PutIsRefused : ClientView Q M A → Q → ClientView Q M A → PutRefused Q → Type 0
  PutIsRefused old packet new refused =
      ((refused ≡ Closed packet) × (new ≡ record old { knows = true }))
      ⊎ ((refused ≡ NoRoom packet) × (new ≡ record old { knows = false; full = new.full })
      × ((new.full ≡ true) ⊎ (length old.put ≡ 18446744073709551615)))

  -- a reply was taken: its answer is the last one taken, its number is the count of takes, and after a closing reply
  -- the end knows of the close
  abbrev pub TookReply : (A → Bool) → ClientView Q M A → ClientView Q M A → Reply A → Type 0
  TookReply is_closing old new reply =
      (moment : M)
      × (new ≡ record old { taken = old.taken ++ (moment, reply.answer) ∷ []; knows = is_closing reply.answer || old.knows })
      × (reply.number ≡ length new.taken)

  -- nothing was put or taken, and this end does not know of a close
  abbrev pub IsFresh : ClientView Q M A → Type 0
  IsFresh c = (c.put ≡ []) × (c.taken ≡ []) × (c.knows ≡ false)

  -- the same for all clients
  abbrev pub AreFresh : List (ClientView Q M A) → Type 0
  AreFresh cs = (k : ℕ) (c : ClientView Q M A) → slice_get cs k ≡ Some c → IsFresh c

  -- if any of these ends knows of the close, the server has died
  abbrev pub CloseMeansDeath : List (ClientView Q M A) → Bool → Type 0
  CloseMeansDeath cs died = (k : ℕ) (c : ClientView Q M A) → slice_get cs k ≡ Some c → c.knows ≡ true → died ≡ true

module _ {S Q M A : Type 0} where
  -- this is the end of client k + 1
  abbrev pub IsEndOf : HandlerView S Q M A → ℕ → ClientView Q M A → Type 0
  IsEndOf h k c = (c.port ≡ h.port) × (c.mark ≡ h.mark) × (c.number ≡ k + 1) × ((o : OutView (M × A)) → slice_get h.outlets k ≡ Some o → o.ring ≡ c.ring)

  -- these are the ends of all clients, in order
  abbrev pub AreEnds : HandlerView S Q M A → List (ClientView Q M A) → Type 0
  AreEnds h cs = (length cs ≡ length h.outlets) × ((k : ℕ) (c : ClientView Q M A) → slice_get cs k ≡ Some c → IsEndOf h k c)

  -- a port over this server, with nothing taken or served
  abbrev pub IsNew : S → HandlerView S Q M A → Type 0
  IsNew server h = (h.opening ≡ server) × (h.server ≡ server) × (h.served ≡ []) × (h.knows ≡ false) × (h.takes ≡ [])

  -- a port over this server with this many clients and ring places; nothing was put, served or taken
  abbrev pub IsOpened : S → ℕ → ℕ → HandlerView S Q M A → List (ClientView Q M A) → Type 0
  IsOpened server clients ring h cs =
      IsNew server h × AreEmpty h.outlets × AreEnds h cs × AreFresh cs × (length cs ≡ clients) × HavePlaces ring h.outlets

  -- the invariant of a handler's end
  pub record IsSound (gives : ServerMeaning S Q M A) (has_died : S → Bool) (h : HandlerView S Q M A) : Type 0 where
    -- the served packets are a run from the opening server to the current one
    pub run : MeaningRun gives h.opening h.served h.server
    -- the mark is known to be set exactly if the server has died
    pub mark : h.knows ≡ has_died h.server
    -- the posted replies of each client, then its waiting ones, are the replies to its served packets
    pub replies : (k : ℕ) (o : OutView (M × A)) → slice_get h.outlets k ≡ Some o → all_of o ≡ replies_to (k + 1) h.served
    -- each served packet belongs to one of these clients
    pub clients : OfClients (length h.outlets) (packets_of h.served)
    -- the packets that its takes found are the served ones, in this order
    pub taken : found_in h.takes ≡ packets_of h.served

  -- these packets were served at this time stamp, from the old server to the new one; posted replies stay posted
  pub record Serves (gives : ServerMeaning S Q M A) (moment : M)
      (old : HandlerView S Q M A) (served : List (Serving Q M A)) (new : HandlerView S Q M A) : Type 0 where
    pub port : new.port ≡ old.port
    pub mark : new.mark ≡ old.mark
    pub opening : new.opening ≡ old.opening
    pub served_more : new.served ≡ old.served ++ served
    pub moments : AllAt moment served
    pub run : MeaningRun gives old.server served new.server
    pub rings : EachStaysPosted old.outlets new.outlets
    -- the takes meanwhile found these packets, in this order
    pub takes : (more : List (Option (ℕ × Q))) × (new.takes ≡ old.takes ++ more) × (found_in more ≡ packets_of served)
