-- The lists from a step-by-step history of an opened port are lawful.
use Rattle.std.proofs.Common.{◌≡◌, ℕ, zero, suc, ◌+◌, ◌-◌, ◌<◌, ◌≤◌, cond, List, [], ◌∷◌, ◌++◌, length, take, drop, replicate, slice_get, Some, None, MatchOption, sym, ap, subst, ◌∙◌, refl, inl, inr, arith}
use Rattle.std.specs.Prelude.{Bool, Option}
use Rattle.std.specs.List.{filter_map, cons_option}
use Rattle.std.specs.Option.{option_map}
use Rattle.std.proofs.lemmas.List.{take-append-drop, length-replicate}
use Rattle.std.proofs.lemmas.Option.{none-some, same_Some, slice_get_within}
use Rattle.std.proofs.lemmas.Bool.Decides.{eqb_tells}
use Rattle.ados_port.specs.History.{ClientState, PortState, client_state, opening_port, Serving, packets_by, Event, events_of, packet_accepted, accepted_in, taken_in, taken_count, client_now, OutcomeFits, PutFits, PortHistory, server_by}
use Rattle.ados_port.specs.Lawful.{served_by, packets_of, answers_to, numbered, ClientLists, Lawful}
use Rattle.ados_port.specs.Lists.{ListsOf}
use Rattle.ados_port.specs.declared.step.Step.{Step}
use Rattle.ados_port.specs.declared.step.Step.TheVariants.{Put, Serve, Take}
use Rattle.ados_port.specs.declared.step.Outcome.{Outcome}
use Rattle.ados_port.specs.declared.step.Outcome.TheVariants.{Accepted, Refused, Served, Idle, Taken, Nothing, NoClient}
use Rattle.ados_port.proofs.Numbers.{eq_false}
use Rattle.ados_port.proofs.Serving.{packets_by-append}
use Rattle.ados_port.proofs.Replies.{numbered-append, took_first}

-- a client by its position
pub client_at : {A : Type 0} (clients : List (ClientState A)) (place : ℕ) → client_state clients (place + 1) ≡ slice_get clients place
client_at clients place =
    ap (λ b. cond b None (slice_get clients (place + 1 - 1))) (eq_false (place + 1) 0 (λ e. absurd (omega (arith, e))))
    ∙ ap (slice_get clients) (omega arith)

pub slice_get-replicate : {X : Type 0} (n k : ℕ) (x : X) → k < n → slice_get (replicate n x) k ≡ Some x
slice_get-replicate zero k x h = absurd (omega (arith, h))
slice_get-replicate (suc n) zero x h = refl
slice_get-replicate (suc n) (suc k) x h = slice_get-replicate n k x (omega (arith, h))

pub length-numbered : {A : Type 0} (n : ℕ) (xs : List A) → length (numbered n xs) ≡ length xs
length-numbered n [] = refl
length-numbered n (x ∷ xs) = ap suc (length-numbered (n + 1) xs)

-- an element of a filtered list comes from the list
from_filter_map : {X Y : Type 0} (f : X → Option Y) (xs : List X) (place : ℕ) (y : Y) → slice_get (filter_map f xs) place ≡ Some y → (i : ℕ) × (x : X) × (slice_get xs i ≡ Some x) × (f x ≡ Some y)
from_filter_map f [] place y at_place = absurd (none-some y at_place)
from_filter_map {X} {Y} f (x ∷ xs) place y at_place = go (f x) refl place at_place (λ p. from_filter_map f xs p y)
  where
    go : (o : Option Y) → f x ≡ o → (p : ℕ) → slice_get (cons_option o (filter_map f xs)) p ≡ Some y
        → ((p : ℕ) → slice_get (filter_map f xs) p ≡ Some y → (i : ℕ) × (v : X) × (slice_get xs i ≡ Some v) × (f v ≡ Some y))
        → (i : ℕ) × (v : X) × (slice_get (x ∷ xs) i ≡ Some v) × (f v ≡ Some y)
    go None is_o p at_p rest = let r = rest p at_p in (suc r.0, r.1, r.2, r.3)
    go (Some z) is_o zero at_p rest = (0, x, refl, is_o ∙ at_p)
    go (Some z) is_o (suc p) at_p rest = let r = rest p at_p in (suc r.0, r.1, r.2, r.3)

module _ {S Q M A : Type 0} (gives : S → Q → M → S → A → Type 0) (has_died : S → Bool) (server : S) (count : ℕ) (steps : List (Step Q M)) (outcomes : List (Outcome Q A)) (closing : PortState S Q A)
    (h : PortHistory gives has_died (opening_port server count) steps outcomes closing) where
  abbrev fresh : ClientState A
  fresh = record { accepted = 0; taken = 0; untaken = [] }

  abbrev events : List (Event Q M A)
  events = events_of steps outcomes

  opened : (place : ℕ) → place < count → client_state (replicate count fresh) (place + 1) ≡ Some fresh
  opened place below = client_at (replicate count fresh) place ∙ slice_get-replicate count place fresh below

  numbers_in : (client : ℕ) (c : ClientState A) → client_state (replicate count fresh) client ≡ Some c → (1 ≤ client) × (client ≤ count)
  numbers_in client c found = elim (eqb_tells client 0) [
    | inl w ↦ absurd (none-some c (sym (ap (λ b. cond b None (slice_get (replicate count fresh) (client - 1))) w.0) ∙ found))
    | inr w ↦
        let within : client - 1 < length (replicate count fresh) = slice_get_within (replicate count fresh) (client - 1) c (sym (ap (λ b. cond b None (slice_get (replicate count fresh) (client - 1))) w.0) ∙ found)
        in (omega (arith, w.1), omega (arith, w.1, within, length-replicate count fresh))
  ]

  -- an accepted packet is from one of the clients
  accepted_known : (served : List (Serving Q M A)) (died : Bool) (before : List (Event Q M A)) (step : Step Q M) (outcome : Outcome Q A) (packet : ℕ × Q)
      → OutcomeFits (opening_port server count) served died before step outcome → packet_accepted step outcome ≡ Some packet → (1 ≤ packet.0) × (packet.0 ≤ count)
  accepted_known served died before (Put client q) (Accepted number) packet fits accepted = go (client_state (replicate count fresh) client) refl fits
    where
      go : (o : Option (ClientState A)) → client_state (replicate count fresh) client ≡ o
          → (let outcome : Outcome Q A = Accepted number in MatchOption o (outcome ≡ NoClient (Some q)) (λ c. PutFits died q (client_now served before client c) outcome)) → (1 ≤ packet.0) × (packet.0 ≤ count)
      go None is_o f = cc
      go (Some c) is_o f = let P : ℕ × Q → Type 0 = λ p. (1 ≤ p.0) × (p.0 ≤ count) in subst P (same_Some (client, q) packet accepted) (numbers_in client c is_o)
  accepted_known served died before (Put client q) (Refused r) packet fits accepted = absurd (none-some packet accepted)
  accepted_known served died before (Put client q) Served packet fits accepted = absurd (none-some packet accepted)
  accepted_known served died before (Put client q) Idle packet fits accepted = absurd (none-some packet accepted)
  accepted_known served died before (Put client q) (Taken r) packet fits accepted = absurd (none-some packet accepted)
  accepted_known served died before (Put client q) Nothing packet fits accepted = absurd (none-some packet accepted)
  accepted_known served died before (Put client q) (NoClient r) packet fits accepted = absurd (none-some packet accepted)
  accepted_known served died before (Serve moment) outcome packet fits accepted = absurd (none-some packet accepted)
  accepted_known served died before (Take client) outcome packet fits accepted = absurd (none-some packet accepted)

  -- the served packets and the waiting ones are the accepted ones
  all_accepted : packets_of h.served ++ closing.waiting ≡ accepted_in events
  all_accepted = simp (h.in_order, h.closing_waiting, take-append-drop)

  -- the replies taken and those left are the answers
  all_replies : (client : ℕ) → client_state (replicate count fresh) client ≡ Some fresh
      → packets_by client (taken_in events) ++ numbered (taken_count client events + 1) (drop (taken_count client events) (answers_to client h.served)) ≡ numbered 1 (answers_to client h.served)
  all_replies client found =
      let k : ℕ = taken_count client events
      in let answers : List A = answers_to client h.served
      in let first : packets_by client (taken_in events) ≡ numbered 1 (take k answers) = took_first gives has_died (opening_port server count) steps outcomes closing h client fresh found
      in let within : length (take k answers) ≡ k = sym (ap length first ∙ length-numbered 1 (take k answers))
      in ap (λ l. l ++ numbered (k + 1) (drop k answers)) first
      ∙ ap (λ n. numbered 1 (take k answers) ++ numbered n (drop k answers)) (omega (arith, within))
      ∙ sym (numbered-append 1 (take k answers) (drop k answers))
      ∙ ap (numbered 1) (take-append-drop k answers)

  pub history-lawful : (clients : List (ClientLists Q A)) → ListsOf count events closing clients → Lawful gives server clients h.served closing.waiting closing.server
  history-lawful clients lists_of = record {
    meaning = (h.servers, h.meaning, sym h.closing_server);
    each_put = λ place lists at_place.
        sym (packets_by-append (place + 1) (packets_of h.served) closing.waiting) ∙ ap (packets_by (place + 1)) all_accepted ∙ sym (lists_of.each_put place lists at_place);
    each_reply = λ place lists at_place.
        let below : place < count = omega (arith, slice_get_within clients place lists at_place, lists_of.as_many)
        in let now : client_state closing.clients (place + 1) ≡ Some (client_now h.served events (place + 1) fresh) =
        h.closing_clients (place + 1) ∙ ap (option_map (client_now h.served events (place + 1))) (opened place below)
        in ap (λ l. l ++ lists.untaken) (lists_of.each_taken place lists at_place)
        ∙ ap (λ l. packets_by (place + 1) (taken_in events) ++ l) (lists_of.each_untaken place lists (client_now h.served events (place + 1) fresh) at_place now)
        ∙ ap (λ n. packets_by (place + 1) (taken_in events) ++ numbered n (drop (taken_count (place + 1) events) (answers_to (place + 1) h.served))) (omega arith)
        ∙ all_replies (place + 1) (opened place below);
    known = λ place packet at_place.
        let from = from_filter_map (λ e. packet_accepted e.step e.outcome) events place packet (ap (λ l. slice_get l place) (sym all_accepted) ∙ at_place)
        in let known : (1 ≤ packet.0) × (packet.0 ≤ count) =
        accepted_known (served_by (take from.0 events) h.served) (has_died (server_by (take from.0 events) server h.servers)) (take from.0 events) from.1.step from.1.outcome packet (h.fits from.0 from.1 from.2) from.3
        in (known.0, omega (arith, known.1, lists_of.as_many));
  }
