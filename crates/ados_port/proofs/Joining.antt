-- Two histories, one after the other, are one history.
use Rattle.std.proofs.Common.{◌≡◌, ◌⊎◌, ℕ, zero, suc, ◌+◌, ◌<◌, ◌≤◌, Bool, cond, List, [], ◌∷◌, ◌++◌, map, length, take, drop, slice_get, nat_eq, Some, None, refl, sym, ap, ◌∙◌, inl, inr, arith, subst, MatchOption, append_assoc, length-append}
use Rattle.std.specs.Option.{option_map}
use Rattle.std.proofs.lemmas.List.{map-append, take-append-le, length-take, drop-append-le, drop-drop, length-map}
use Rattle.std.proofs.lemmas.List.Elements.{filter_map-append}
use Rattle.std.proofs.lemmas.Bool.Decides.{eqb_tells}
use Rattle.std.proofs.Math.Seq.{take-append-add, drop-append-add}
use Rattle.ados_port.proofs.Events.{filter_map-take}
use Rattle.std.proofs.lemmas.Bool.{eq-eqb, ne_eqb}
use Rattle.ados_port.proofs.Lawful.{length-numbered}
use Rattle.ados_port.proofs.Replies.{took_first}
use Rattle.ados_port.proofs.Serving.{packets_by-append, answers_to-append}
use Rattle.ados_port.proofs.Serving.{run-append, last_server-append}
use Rattle.ados_port.specs.History.{ClientState, PortState, Serving, Event, events_of, packets_by, accepted_in, moments_in, taken_in, served_count, taken_count, client_state, Run, last_server, queue, client_now, PutFits, take_outcome, OutcomeFits, PortHistory, moment_served}
use Rattle.ados_port.specs.Lawful.{accepted_count, packets_of, answers_to}
use Rattle.ados_port.specs.declared.step.Step.{Step}
use Rattle.ados_port.specs.declared.step.Step.TheVariants.{Put, Serve, Take}
use Rattle.ados_port.specs.declared.step.Outcome.{Outcome}
use Rattle.ados_port.specs.declared.step.Outcome.TheVariants.{Served, Idle, NoClient}
use Rattle.ados_port.proofs.Histories.{served_length, servers_length, queue_is, MatchOption-map, MatchOption-weaken, option_map-both}

events-append : {Q M A : Type 0} (steps more : List (Step Q M)) (outcomes after : List (Outcome Q A)) → length outcomes ≡ length steps
    → events_of (steps ++ more) (outcomes ++ after) ≡ events_of steps outcomes ++ events_of more after
events-append [] more [] after e = refl
events-append (s ∷ ss) more (o ∷ os) after e = ap (λ es. record { step = s; outcome = o } ∷ es) (events-append ss more os after (omega (arith, e)))
events-append steps more outcomes after e = absurd (omega (arith, e))

-- an element of two appended lists is one of the first, or one of the second at its index there
slice_get-append_at : {X : Type 0} (xs ys : List X) (i : ℕ) (x : X) → slice_get (xs ++ ys) i ≡ Some x
    → ((i < length xs) × (slice_get xs i ≡ Some x)) ⊎ ((j : ℕ) × (i ≡ length xs + j) × (slice_get ys j ≡ Some x))
slice_get-append_at [] ys i x h = inr (i, omega arith, h)
slice_get-append_at (z ∷ zs) ys zero x h = inl (omega arith, h)
slice_get-append_at (z ∷ zs) ys (suc i) x h = elim (slice_get-append_at zs ys i x h) [
  | inl w ↦ inl (omega (arith, w.0), w.1)
  | inr w ↦ inr (w.0, omega (arith, w.1), w.2)
]

-- two numbers, both larger by k
eq-longer : (k a b x y : ℕ) → x ≡ k + a → y ≡ k + b → nat_eq x y ≡ nat_eq a b
eq-longer k a b x y e f = elim (eqb_tells a b) [
  | inl w ↦ eq-eqb x y (omega (arith, e, f, w.1)) ∙ sym w.0
  | inr w ↦ ne_eqb x y (λ q. w.1 (omega (arith, e, f, q))) ∙ sym w.0
]

module _ {Q M A : Type 0} where
  taken-append : (number : ℕ) (es fs : List (Event Q M A)) → taken_count number (es ++ fs) ≡ taken_count number es + taken_count number fs
  taken-append number es fs = simp (filter_map-append, packets_by-append, length-append)

  accepted-append : (number : ℕ) (es fs : List (Event Q M A)) → accepted_count number (es ++ fs) ≡ accepted_count number es + accepted_count number fs
  accepted-append number es fs = simp (filter_map-append, packets_by-append, length-append)

  served-append : (es fs : List (Event Q M A)) → served_count (es ++ fs) ≡ served_count es + served_count fs
  served-append es fs = simp (filter_map-append, length-append)

module _ {S Q M A : Type 0} (gives : S → Q → M → S → A → Type 0) (has_died : S → Bool) where
  module _ (opening : PortState S Q A) (steps : List (Step Q M)) (outcomes : List (Outcome Q A)) (mid : PortState S Q A) (h : PortHistory gives has_died opening steps outcomes mid) where
    abbrev es : List (Event Q M A)
    es = events_of steps outcomes

    -- no client has taken more replies than there were
    taken_bound : (number : ℕ) (c : ClientState A) → client_state opening.clients number ≡ Some c → taken_count number es ≤ length (c.untaken ++ answers_to number h.served)
    taken_bound number c found =
        let replies = c.untaken ++ answers_to number h.served
        in let first = took_first gives has_died opening steps outcomes mid h number c found
        in omega (arith, ap length first, length-numbered (c.taken + 1) (take (taken_count number es) replies), length-take (taken_count number es) replies)

    -- the queue and the clients, counted from the first opening
    queue_behind : (before : List (Event Q M A)) → queue opening (es ++ before) ≡ packets_of h.served ++ queue mid before
    queue_behind before =
        ap (λ l. opening.waiting ++ l) (filter_map-append _ es before) ∙ sym (append_assoc opening.waiting (accepted_in es) (accepted_in before))
        ∙ ap (λ l. l ++ accepted_in before) (queue_is gives has_died opening steps outcomes mid h) ∙ append_assoc (packets_of h.served) mid.waiting (accepted_in before)

    client_behind : (number : ℕ) (c : ClientState A) → client_state opening.clients number ≡ Some c → (served : List (Serving Q M A)) (before : List (Event Q M A))
        → client_now (h.served ++ served) (es ++ before) number c ≡ client_now served before number (client_now h.served es number c)
    client_behind number c found served before =
        let bound = taken_bound number c found
        in let sum_accepted : c.accepted + accepted_count number (es ++ before) ≡ (c.accepted + accepted_count number es) + accepted_count number before = omega (arith, accepted-append number es before)
        in let sum_taken : c.taken + taken_count number (es ++ before) ≡ (c.taken + taken_count number es) + taken_count number before = omega (arith, taken-append number es before)
        in let rest : drop (taken_count number (es ++ before)) (c.untaken ++ answers_to number (h.served ++ served))
        ≡ drop (taken_count number before) (drop (taken_count number es) (c.untaken ++ answers_to number h.served) ++ answers_to number served) =
        ap (λ n. drop n (c.untaken ++ answers_to number (h.served ++ served))) (taken-append number es before)
        ∙ ap (drop (taken_count number es + taken_count number before))
        (ap (λ l. c.untaken ++ l) (answers_to-append number h.served served) ∙ sym (append_assoc c.untaken (answers_to number h.served) (answers_to number served)))
        ∙ sym (drop-drop (taken_count number before) (taken_count number es) ((c.untaken ++ answers_to number h.served) ++ answers_to number served))
        ∙ ap (drop (taken_count number before)) (drop-append-le (taken_count number es) (c.untaken ++ answers_to number h.served) (answers_to number served) bound)
        in λ i. record { accepted = sum_accepted i; taken = sum_taken i; untaken = rest i }

    -- a property of a client after these events
    by_client_behind : (P : Type 0) (R : ClientState A → Type 0) (number : ℕ) (served : List (Serving Q M A)) (before : List (Event Q M A))
        → MatchOption (client_state mid.clients number) P (λ c. R (client_now served before number c))
        → MatchOption (client_state opening.clients number) P (λ c. R (client_now (h.served ++ served) (es ++ before) number c))
    by_client_behind P R number served before w =
        MatchOption-weaken (client_state opening.clients number) P P (λ c. R (client_now served before number (client_now h.served es number c))) (λ c. R (client_now (h.served ++ served) (es ++ before) number c))
        (λ p. p) (λ c found r. subst R (sym (client_behind number c found served before)) r)
        (MatchOption-map (client_now h.served es number) (client_state opening.clients number) P (λ c. R (client_now served before number c))
        (subst (λ o. MatchOption o P (λ c. R (client_now served before number c))) (h.closing_clients number) w))

    -- an outcome that fits after these events fits in both histories
    fits_behind : (served : List (Serving Q M A)) (died : Bool) (before : List (Event Q M A)) (step : Step Q M) (outcome : Outcome Q A)
        → OutcomeFits mid served died before step outcome → OutcomeFits opening (h.served ++ served) died (es ++ before) step outcome
    fits_behind served died before (Put client packet) outcome w = by_client_behind (outcome ≡ NoClient (Some packet)) (λ c. PutFits died packet c outcome) client served before w
    fits_behind served died before (Serve moment) outcome w =
        let longer : length (queue opening (es ++ before)) ≡ length h.served + length (queue mid before) =
        ap length (queue_behind before) ∙ simp (length-append, length-map)
        in w ∙ sym (ap (λ b. cond b Idle Served) (eq-longer (length h.served) (length served) (length (queue mid before)) _ _ (length-append h.served served) longer))
    fits_behind served died before (Take client) outcome w = by_client_behind (outcome ≡ NoClient None) (λ c. outcome ≡ take_outcome c.taken c.untaken) client served before w

    module _ (more : List (Step Q M)) (after : List (Outcome Q A)) (closing : PortState S Q A) (g : PortHistory gives has_died mid more after closing) where
      abbrev fs : List (Event Q M A)
      fs = events_of more after

      -- an event fits the events before it in both histories
      abbrev FitsBoth : ℕ → Event Q M A → Type 0
      FitsBoth i f =
          OutcomeFits opening (take (served_count (take i (es ++ fs))) (h.served ++ g.served))
          (has_died (last_server opening.server (take (served_count (take i (es ++ fs))) (h.servers ++ g.servers)))) (take i (es ++ fs)) f.step f.outcome

      counted : served_count es ≡ length h.served
      counted = sym (served_length gives has_died opening steps outcomes mid h)

      as_many_servers : length h.servers ≡ length h.served
      as_many_servers = servers_length gives has_died opening steps outcomes mid h

      fits_first : (i : ℕ) (f : Event Q M A) → i < length es → slice_get es i ≡ Some f → FitsBoth i f
      fits_first i f lt at_i =
          let same : take i (es ++ fs) ≡ take i es = take-append-le i es fs (omega (arith, lt))
          in let few : served_count (take i es) ≤ length h.served = omega (arith, counted, filter_map-take (λ v. moment_served v.step v.outcome) es i)
          in let as_served : take (served_count (take i es)) (h.served ++ g.served) ≡ take (served_count (take i es)) h.served = take-append-le _ h.served g.served few
          in let as_servers : take (served_count (take i es)) (h.servers ++ g.servers) ≡ take (served_count (take i es)) h.servers =
          take-append-le _ h.servers g.servers (omega (arith, few, as_many_servers))
          in simp (same, as_served, as_servers) (h.fits i f at_i)

      fits_second : (j : ℕ) (f : Event Q M A) → slice_get fs j ≡ Some f → FitsBoth (length es + j) f
      fits_second j f at_j =
          let before = take j fs
          in let k = served_count before
          in let same : take (length es + j) (es ++ fs) ≡ es ++ before = take-append-add es fs j
          in let as_served : take (served_count (es ++ before)) (h.served ++ g.served) ≡ h.served ++ take k g.served =
          ap (λ n. take n (h.served ++ g.served)) (served-append es before ∙ ap (λ n. n + k) counted) ∙ take-append-add h.served g.served k
          in let as_servers : take (served_count (es ++ before)) (h.servers ++ g.servers) ≡ h.servers ++ take k g.servers =
          ap (λ n. take n (h.servers ++ g.servers)) (served-append es before ∙ ap (λ n. n + k) (counted ∙ sym as_many_servers)) ∙ take-append-add h.servers g.servers k
          in let server : last_server opening.server (h.servers ++ take k g.servers) ≡ last_server mid.server (take k g.servers) =
          last_server-append opening.server h.servers (take k g.servers) ∙ ap (λ s. last_server s (take k g.servers)) (sym h.closing_server)
          in simp (same, as_served, as_servers, server) (fits_behind (take k g.served) (has_died (last_server mid.server (take k g.servers))) before f.step f.outcome (g.fits j f at_j))

      events_both : events_of (steps ++ more) (outcomes ++ after) ≡ es ++ fs
      events_both = events-append steps more outcomes after h.as_long

      served_both : length (h.served ++ g.served) ≡ length (packets_of h.served) + length g.served
      served_both = length-append h.served g.served ∙ ap (λ n. n + length g.served) (sym (length-map h.served _))

      -- the packets served in both are the first of the queue, and the waiting packets are the rest
      first_both : take (length (h.served ++ g.served)) (queue opening (es ++ fs)) ≡ packets_of h.served ++ take (length g.served) (queue mid fs)
      first_both = ap (take (length (h.served ++ g.served))) (queue_behind fs) ∙ ap (λ n. take n (packets_of h.served ++ queue mid fs)) served_both
          ∙ take-append-add (packets_of h.served) (queue mid fs) (length g.served)

      rest_both : drop (length (h.served ++ g.served)) (queue opening (es ++ fs)) ≡ drop (length g.served) (queue mid fs)
      rest_both = ap (drop (length (h.served ++ g.served))) (queue_behind fs) ∙ ap (λ n. drop n (packets_of h.served ++ queue mid fs)) served_both
          ∙ drop-append-add (packets_of h.served) (queue mid fs) (length g.served)

      pub history_joins : PortHistory gives has_died opening (steps ++ more) (outcomes ++ after) closing
      history_joins = record {
        served = h.served ++ g.served;
        servers = h.servers ++ g.servers;
        meaning = run-append gives opening.server h.served g.served h.servers g.servers h.meaning (subst (λ s. Run gives s g.served g.servers) h.closing_server g.meaning);
        in_order = map-append _ h.served g.served ∙ ap (λ l. packets_of h.served ++ l) g.in_order ∙ sym first_both ∙ ap (λ l. take (length (h.served ++ g.served)) (queue opening l)) (sym events_both);
        moments = map-append _ h.served g.served ∙ ap (λ l. l ++ map (λ s. s.moment) g.served) h.moments ∙ ap (λ l. moments_in es ++ l) g.moments ∙ sym (filter_map-append _ es fs) ∙ ap moments_in (sym events_both);
        as_long = length-append outcomes after ∙ ap (λ n. n + length after) h.as_long ∙ ap (λ n. length steps + n) g.as_long ∙ sym (length-append steps more);
        fits = subst (λ l. (i : ℕ) (f : Event Q M A) → slice_get l i ≡ Some f
            → OutcomeFits opening (take (served_count (take i l)) (h.served ++ g.served)) (has_died (last_server opening.server (take (served_count (take i l)) (h.servers ++ g.servers)))) (take i l) f.step f.outcome)
            (sym events_both)
            (λ i f at_i. elim (slice_get-append_at es fs i f at_i) [
              | inl w ↦ fits_first i f w.0 w.1
              | inr w ↦ subst (λ n. FitsBoth n f) (sym w.1) (fits_second w.0 f w.2)
            ]);
        closing_server = g.closing_server ∙ ap (λ s. last_server s g.servers) h.closing_server ∙ sym (last_server-append opening.server h.servers g.servers);
        closing_waiting = g.closing_waiting ∙ sym rest_both ∙ ap (λ l. drop (length (h.served ++ g.served)) (queue opening l)) (sym events_both);
        closing_clients = λ number.
            g.closing_clients number ∙ ap (option_map (client_now g.served fs number)) (h.closing_clients number)
            ∙ option_map-both (client_now g.served fs number) (client_now h.served es number) (client_now (h.served ++ g.served) (es ++ fs) number) (client_state opening.clients number)
            (λ c found. sym (client_behind number c found g.served fs))
            ∙ ap (λ l. option_map (client_now (h.served ++ g.served) l number) (client_state opening.clients number)) (sym events_both);
      }
