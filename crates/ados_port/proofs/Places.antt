-- The places of an exchange's lists.
use Rattle.std.proofs.Common.{◌≡◌, ◌≢◌, ◌⊎◌, ℕ, zero, suc, ◌+◌, ◌-◌, ◌≤◌, Bool, List, [], ◌∷◌, ◌++◌, length, Some, None, slice_get, slice_set, MatchOption, get_or, sym, refl, ap, ◌∙◌, inl, inr, arith, length-append, length-drop}
use Rattle.std.specs.Prelude.{Option}
use Rattle.std.specs.Option.{option_map}
use Rattle.std.specs.List.{cons_option}
use Rattle.std.proofs.lemmas.List.{length-map, length-set}
use Rattle.std.proofs.lemmas.Option.{none-some, same_Some, slice_get_within, slice_get-get_or, slice_get-map}
use Rattle.std.proofs.lemmas.Bool.Decides.{eqb_tells}
use Rattle.ados_port.proofs.Packets.{packets_by_here, packets_by_past}
use Rattle.ados_port.specs.History.{ClientState, PortHistory, accepted_in, client_now, client_state, packet_accepted, packets_by, queue}
use Rattle.ados_port.specs.Gives.{StepGives}
use Rattle.ados_port.specs.declared.step.Step.{Step}
use Rattle.ados_port.specs.declared.step.Step.TheVariants.{Put, Serve, Take}
use Rattle.ados_port.specs.declared.step.PutRefused.TheVariants.{NoRoom}
use Rattle.ados_port.specs.declared.step.Outcome.{Outcome}
use Rattle.ados_port.specs.declared.step.Outcome.TheVariants.{Refused, Taken, Nothing, NoClient}
use Rattle.ados_port.specs.Exchanges.{CanCount, ExchangeView, HasPlacesFor, IsFull, KeepsPlaces, NoneIsFull, RefusesIfFull, open_packets, puts_in}
use Rattle.ados_port.specs.View.{clients_view, places_view, waiting_view}
use Rattle.ados_port.specs.steps.Taking.{HasNoPlace, places_of}
use Rattle.ados_port.specs.declared.counts.Client.{Client}
use Rattle.ados_port.specs.declared.exchange.Waiting.{Waiting}
use Rattle.ados_port.proofs.Histories.{slice_get-push_at}
use Rattle.ados_port.proofs.Grows.{client_state-at}
use Rattle.ados_port.proofs.Views.{client_state-found, client_view, port_view}

-- unchanged lists of places
pub places_same : (ns : List ℕ) → (length ns ≡ length ns) × ((k before after : ℕ) → slice_get ns k ≡ Some before → slice_get ns k ≡ Some after → before ≤ after)
places_same ns = (refl, λ k before after was is. let same = same_Some before after (sym was ∙ is) in omega (arith, same))

module _ {A : Type 0} where
  -- one client changed, and its list lost no place
  places_at : (cs : List (Client A)) (p : ℕ) (old new : Client A) → slice_get cs p ≡ Some old → places_of old ≤ places_of new
      → (k before after : ℕ) → slice_get (places_view cs) k ≡ Some before → slice_get (places_view (slice_set cs p new)) k ≡ Some after → before ≤ after
  places_at [] p old new here more k before after was is = absurd (none-some before was)
  places_at (c ∷ cs) zero old new here more zero before after was is =
      let same = ap places_of (same_Some c old here) in let first = same_Some (places_of c) before was in let last = same_Some (places_of new) after is in
      omega (arith, same, first, last, more)
  places_at (c ∷ cs) zero old new here more (suc k) before after was is = let same = same_Some before after (sym was ∙ is) in omega (arith, same)
  places_at (c ∷ cs) (suc p) old new here more zero before after was is = let same = same_Some before after (sym was ∙ is) in omega (arith, same)
  places_at (c ∷ cs) (suc p) old new here more (suc k) before after was is = places_at cs p old new here more k before after was is

  pub places_set : (cs : List (Client A)) (p : ℕ) (old new : Client A) → slice_get cs p ≡ Some old → places_of old ≤ places_of new
      → (length (places_view (slice_set cs p new)) ≡ length (places_view cs))
      × ((k before after : ℕ) → slice_get (places_view cs) k ≡ Some before → slice_get (places_view (slice_set cs p new)) k ≡ Some after → before ≤ after)
  places_set cs p old new here more =
      (length-map (slice_set cs p new) _ ∙ (length-set cs p new ∙ sym (length-map cs _)), places_at cs p old new here more)

  -- each client's list has places for its open packets
  fits_at : (cs : List (Client A)) (k : ℕ) (c : ClientState A) (places : ℕ) → slice_get (clients_view cs) k ≡ Some c → slice_get (places_view cs) k ≡ Some places → open_packets c + 0 ≤ places
  fits_at [] k v places at here = absurd (none-some v at)
  fits_at (c ∷ cs) zero v places at here =
      let accepted = ap (λ (x : ClientState A). x.accepted) (same_Some (client_view c) v at) in let taken = ap (λ (x : ClientState A). x.taken) (same_Some (client_view c) v at) in
      let same = same_Some (places_of c) places here in
      omega (arith, accepted, taken, same, c.has_room, c.is_counted)
  fits_at (c ∷ cs) (suc k) v places at here = fits_at cs k v places at here

waiting_length : {Q : Type 0} (ws : List (Waiting Q)) → length (waiting_view ws) ≡ length ws
waiting_length ws = length-map ws _

module _ {S Q A : Type 0} where
  pub fits : (server : S) (cs : List (Client A)) (ws : List (Waiting Q)) (places : ℕ) → length ws ≤ places
      → HasPlacesFor 0 (record { port = port_view server cs ws; packet_places = places; reply_places = places_view cs })
  fits server cs ws places few = record {
    packets = let long = waiting_length ws in omega (arith, long, few);
    replies = λ client n c at here. fits_at cs (client - 1) c n (client_state-at (clients_view cs) client c at).1 here;
  }

  -- a client without a place, or whose count is at its maximum, finds the exchange full
  pub full_client : (server : S) (cs : List (Client A)) (ws : List (Waiting Q)) (places client : ℕ) (c : Client A) → client ≢ 0 → slice_get cs (client - 1) ≡ Some c → HasNoPlace c
      → IsFull (record { port = port_view server cs ws; packet_places = places; reply_places = places_view cs }) client
  full_client server cs ws places client c not_zero found none = inr (client_view c, client_state-found cs client c not_zero found, why none)
    where
      why : HasNoPlace c → (slice_get (places_view cs) (client - 1) ≡ Some (open_packets (client_view c))) ⊎ (c.accepted ≡ 18446744073709551615)
      why (inl no_place) =
          let all_used : places_of c ≡ c.accepted - c.taken = omega (arith, no_place, c.is_counted) in
          inl (slice_get-map places_of cs (client - 1) ∙ ap (option_map places_of) found ∙ ap Some all_used)
      why (inr last) = inr last

one_at_most : {X : Type 0} (o : Option X) → length (cons_option o []) ≤ 1
one_at_most None = omega arith
one_at_most (Some x) = omega arith

one_of_client : {Q : Type 0} (o : Option (ℕ × Q)) (number : ℕ) → length (packets_by number (cons_option o [])) ≤ 1
one_of_client None number = omega arith
one_of_client (Some p) number = elim (eqb_tells p.0 number) [
  | inl w ↦ let here = ap length (packets_by_here p number [] w.1) in omega (arith, here)
  | inr w ↦ let past = ap length (packets_by_past p number [] w.1) in omega (arith, past)
]

module _ {Q M A : Type 0} where
  -- a step adds at most its put to the port, and to a client's count
  puts_at_most : (step : Step Q M) (outcome : Outcome Q A) → length (accepted_in (record { step = step; outcome = outcome } ∷ [])) ≤ puts_in step
  puts_at_most (Put client packet) outcome = one_at_most (packet_accepted {M = M} (Put client packet) outcome)
  puts_at_most (Serve moment) outcome = omega arith
  puts_at_most (Take client) outcome = omega arith

  counts_at_most : (step : Step Q M) (outcome : Outcome Q A) (number : ℕ) → length (packets_by number (accepted_in (record { step = step; outcome = outcome } ∷ []))) ≤ puts_in step
  counts_at_most (Put client packet) outcome number = one_of_client (packet_accepted {M = M} (Put client packet) outcome) number
  counts_at_most (Serve moment) outcome number = omega arith
  counts_at_most (Take client) outcome number = omega arith

module _ {S Q M A : Type 0} (gives : S → Q → M → S → A → Type 0) (has_died : S → Bool) where
  -- no list is full where there are places
  not_full : (count : ℕ) (e : ExchangeView S Q A) (client : ℕ) → 1 ≤ count → HasPlacesFor count e → CanCount count e → IsFull e client → ⊥
  not_full count e client some h counts (inl none) = absurd (omega (arith, some, h.packets, none))
  not_full count e client some h counts (inr w) = elim w.2 [
    | inl none ↦ absurd (omega (arith, some, h.replies client (open_packets w.0) w.0 w.1 none))
    | inr last ↦ absurd (omega (arith, some, counts client w.0 w.1, last))
  ]

  -- a step for which there are places is not refused as `NoRoom`
  pub goes_on : (count : ℕ) (a b : ExchangeView S Q A) (step : Step Q M) (outcome : Outcome Q A) (packet : Q) → HasPlacesFor (puts_in step + count) a → CanCount (puts_in step + count) a
      → StepGives gives has_died a.port step outcome b.port → RefusesIfFull a step outcome → outcome ≡ Refused (NoRoom packet) → ⊥
  goes_on count a b (Put client put) outcome packet h counts given full is = not_full (1 + count) a client (omega arith) h counts (full packet is)
  goes_on count a b (Serve moment) outcome packet h counts (inl w) full is = let idle = sym w.1 ∙ is in cc
  goes_on count a b (Serve moment) outcome packet h counts (inr w) full is = let served = sym w.3 ∙ is in cc
  goes_on count a b (Take client) outcome packet h counts given full is = taken (client_state a.port.clients client) given
    where
      taken : (o : Option (ClientState A))
          → MatchOption o ((outcome ≡ NoClient None) × (b.port ≡ a.port)) (λ c. ((c.untaken ≡ []) × (outcome ≡ Nothing) × (b.port ≡ a.port))
          ⊎ ((answer : A) × (rest : List A) × (c.untaken ≡ answer ∷ rest)
          × (outcome ≡ Taken (record { number = c.taken + 1; answer = answer }))
          × (b.port ≡ record a.port { clients = slice_set a.port.clients (client - 1) (record { accepted = c.accepted; taken = c.taken + 1; untaken = rest }) })))
          → ⊥
      taken None v = let other = sym v.0 ∙ is in cc
      taken (Some c) (inl v) = let other = sym v.1 ∙ is in cc
      taken (Some c) (inr v) = let other = sym v.3 ∙ is in cc

  module _ (a b : ExchangeView S Q A) (step : Step Q M) (outcome : Outcome Q A) (history : PortHistory gives has_died a.port (step ∷ []) (outcome ∷ []) b.port) where
    -- a client before the step. At most the step's put was added to its packets
    client_before : (client : ℕ) (c : ClientState A) → client_state b.port.clients client ≡ Some c
        → (d : ClientState A) × (client_state a.port.clients client ≡ Some d) × (c.accepted ≤ d.accepted + puts_in step) × (open_packets c ≤ open_packets d + puts_in step)
    client_before client c at = go (client_state a.port.clients client) refl (sym (history.closing_clients client) ∙ at)
      where
        go : (o : Option (ClientState A)) → client_state a.port.clients client ≡ o → option_map (client_now history.served (record { step = step; outcome = outcome } ∷ []) client) o ≡ Some c
            → (d : ClientState A) × (client_state a.port.clients client ≡ Some d) × (c.accepted ≤ d.accepted + puts_in step) × (open_packets c ≤ open_packets d + puts_in step)
        go None is found = absurd (none-some c found)
        go (Some d) is found =
            let now = client_now history.served (record { step = step; outcome = outcome } ∷ []) client d in
            let more = counts_at_most step outcome client in
            let accepted = ap (λ (x : ClientState A). x.accepted) (same_Some now c found) in
            let taken = ap (λ (x : ClientState A). x.taken) (same_Some now c found) in
            (d, is, omega (arith, more, accepted), omega (arith, more, accepted, taken))

    pub places_left : (count : ℕ) → HasPlacesFor (puts_in step + count) a → KeepsPlaces a b → HasPlacesFor count b
    places_left count h keeps = record {
      packets =
          let long = ap length history.closing_waiting ∙ length-drop (length history.served) (queue a.port (record { step = step; outcome = outcome } ∷ [])) in
          let all = length-append a.port.waiting (accepted_in (record { step = step; outcome = outcome } ∷ [])) in
          let more = puts_at_most step outcome in
          omega (arith, long, all, more, h.packets, keeps.0);
      replies = λ client places c at here.
          let before = client_before client c at in
          let within = slice_get_within b.reply_places (client - 1) places here in
          let was : ℕ = get_or a.reply_places (client - 1) 0 in
          let there : slice_get a.reply_places (client - 1) ≡ Some was = slice_get-get_or a.reply_places (client - 1) 0 (omega (arith, within, keeps.1)) in
          let kept = keeps.2 (client - 1) was places there here in
          omega (arith, h.replies client was before.0 before.1 there, kept, before.3);
    }

    pub counts_left : (count : ℕ) → CanCount (puts_in step + count) a → CanCount count b
    counts_left count h client c at = let before = client_before client c at in omega (arith, h client before.0 before.1, before.2)

module _ {Q A : Type 0} where
  pub none_more : (outcomes : List (Outcome Q A)) (outcome : Outcome Q A) → NoneIsFull outcomes → ((packet : Q) → outcome ≡ Refused (NoRoom packet) → ⊥) → NoneIsFull (outcomes ++ outcome ∷ [])
  none_more outcomes outcome was now i packet at = elim (slice_get-push_at outcomes outcome i (Refused (NoRoom packet)) at) [
    | inl e ↦ was i packet e.1
    | inr e ↦ now packet (sym e.1)
  ]
