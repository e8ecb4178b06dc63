-- When the lists of a port's ends belong to one history.
use Rattle.std.specs.Prelude.{◌≡◌, ℕ, List, [], ◌∷◌, ◌+◌, ◌≤◌, ◌++◌, length, map, slice_get, Some, take}
use Rattle.ados_port.specs.History.{Event, Serving, accepted_in, packets_by, served_count, ServerMeaning, Run}
use Rattle.ados_port.specs.History.{last_server}
use Rattle.ados_port.specs.declared.step.Reply.{Reply}

-- the packets served in these events
abbrev pub served_by : {Q M A : Type 0} → List (Event Q M A) → List (Serving Q M A) → List (Serving Q M A)
served_by before served = take (served_count before) served

module _ {Q M A : Type 0} where
  -- the served packets, each with its client
  abbrev pub packets_of : List (Serving Q M A) → List (ℕ × Q)
  packets_of served = map (λ s. (s.client, s.packet)) served

  -- the answers to this client's packets, in order
  abbrev pub answers_to : ℕ → List (Serving Q M A) → List A
  answers_to client served = packets_by client (map (λ s. (s.client, s.answer)) served)

  -- the number of this client's packets accepted in these events
  abbrev pub accepted_count : ℕ → List (Event Q M A) → ℕ
  accepted_count client events = length (packets_by client (accepted_in events))

-- these packets may get these answers, and lead from the opening server to the closing one
abbrev pub MeaningRun : {S Q M A : Type 0} → ServerMeaning S Q M A → S → List (Serving Q M A) → S → Type 0
MeaningRun {S} gives opening served closing =
    (servers : List S) × Run gives opening served servers × (last_server opening servers ≡ closing)

-- the answers, numbered from this number
abbrev pub numbered : {A : Type 0} → ℕ → List A → List (Reply A)
numbered number [] = []
numbered number (answer ∷ answers) = record { number = number; answer = answer } ∷ numbered (number + 1) answers

-- a client's lists: the packets that it put, the replies that it took, and its other replies
pub record ClientLists (Q A : Type 0) : Type 0 where
  pub put : List Q
  pub taken : List (Reply A)
  pub untaken : List (Reply A)

-- the lists of all ends of a port belong to one history
pub record Lawful {S Q M A : Type 0} (gives : ServerMeaning S Q M A) (opening : S) (clients : List (ClientLists Q A))
    (served : List (Serving Q M A)) (unanswered : List (ℕ × Q)) (closing : S) : Type 0 where
  -- the opening server may give these answers one after the other, and then is the closing server
  pub meaning : MeaningRun gives opening served closing
  -- a client's packets, first those served and then those unanswered, are the packets that it put
  pub each_put : (place : ℕ) (lists : ClientLists Q A) → slice_get clients place ≡ Some lists
      → packets_by (place + 1) (packets_of served) ++ packets_by (place + 1) unanswered ≡ lists.put
  -- its replies, first those taken and then the others, are the answers to its packets, numbered from 1
  pub each_reply : (place : ℕ) (lists : ClientLists Q A) → slice_get clients place ≡ Some lists
      → lists.taken ++ lists.untaken ≡ numbered 1 (answers_to (place + 1) served)
  -- every packet is from one of these clients
  pub known : (place : ℕ) (packet : ℕ × Q) → slice_get (packets_of served ++ unanswered) place ≡ Some packet
      → (1 ≤ packet.0) × (packet.0 ≤ length clients)

-- all were served at this time stamp
abbrev pub AllAt : {Q M A : Type 0} → M → List (Serving Q M A) → Type 0
AllAt moment [] = Unit {0}
AllAt moment (s ∷ served) = (s.moment ≡ moment) × AllAt moment served
