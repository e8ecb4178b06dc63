-- The history of one step, and a history that grows by one.
use Rattle.std.proofs.Common.{◌≡◌, ◌≢◌, ◌⊎◌, ℕ, zero, suc, ◌+◌, ◌-◌, Bool, true, false, cond, List, [], ◌∷◌, ◌++◌, map, length, take, drop, slice_get, slice_set, nat_eq, Some, None, refl, sym, ap, ◌∙◌, inl, inr, arith, subst, MatchOption, add-zero}
use Rattle.std.specs.Prelude.{Option}
use Rattle.std.specs.Bool.{MatchBool}
use Rattle.std.specs.List.{cons_option}
use Rattle.std.specs.Option.{option_map}
use Rattle.std.proofs.lemmas.List.{append-nil}
use Rattle.std.proofs.lemmas.Option.{none-some, same_Some, slice_get_within}
use Rattle.std.proofs.lemmas.Bool.Decides.{eqb_tells}
use Rattle.ados_port.specs.History.{ClientState, PortState, Serving, Event, packets_by, accepted_in, moments_in, served_count, server_by, client_state, Run, last_server, queue, client_now, PutFits, take_outcome, OutcomeFits, PortHistory, packet_accepted, moment_served, reply_taken}
use Rattle.ados_port.specs.Lawful.{packets_of}
use Rattle.ados_port.specs.Gives.{PutGives, ServeGives, TakeGives, StepGives}
use Rattle.ados_port.specs.declared.step.Step.{Step}
use Rattle.ados_port.specs.declared.step.Step.TheVariants.{Put, Serve, Take}
use Rattle.ados_port.specs.declared.step.PutRefused.TheVariants.{Closed, NoRoom}
use Rattle.ados_port.specs.declared.step.Reply.{Reply}
use Rattle.ados_port.specs.declared.step.Outcome.{Outcome}
use Rattle.ados_port.specs.declared.step.Outcome.TheVariants.{Accepted, Refused, Served, Idle, Taken, Nothing, NoClient}
use Rattle.std.proofs.lemmas.Bool.{eq-eqb, ne_eqb}
use Rattle.ados_port.proofs.Packets.{packets_by_here, packets_by_past}
use Rattle.ados_port.proofs.Eachs.{get_set_same, get_set_other}
use Rattle.ados_port.proofs.Histories.{MatchOption-weaken, option_map-same, client_still}
use Rattle.ados_port.proofs.Joining.{history_joins}

-- an existing client has a number from 1
pub client_state-at : {A : Type 0} (cs : List (ClientState A)) (n : ℕ) (c : ClientState A) → client_state cs n ≡ Some c → (n ≢ 0) × (slice_get cs (n - 1) ≡ Some c)
client_state-at cs n c found = elim (eqb_tells n 0) [
  | inl w ↦ absurd (none-some c (sym (ap (λ b. cond b None (slice_get cs (n - 1))) w.0) ∙ found))
  | inr w ↦ (w.1, sym (ap (λ b. cond b None (slice_get cs (n - 1))) w.0) ∙ found)
]

-- the client that changed, and any other client
pub client_state-set : {A : Type 0} (cs : List (ClientState A)) (n : ℕ) (c v : ClientState A) → client_state cs n ≡ Some c → (number : ℕ)
    → client_state (slice_set cs (n - 1) v) number ≡ cond (nat_eq number n) (Some v) (client_state cs number)
client_state-set cs n c v found number =
    let at_n = client_state-at cs n c found
    in elim (eqb_tells number n) [
      | inl w ↦
          let not_zero : number ≢ 0 = λ q. at_n.0 (sym w.1 ∙ q)
          in simp (w.0, ne_eqb number 0 not_zero) (ap (λ m. slice_get (slice_set cs (n - 1) v) (m - 1)) w.1 ∙ get_set_same cs (n - 1) v (slice_get_within cs (n - 1) c at_n.1))
      | inr w ↦
          elim (eqb_tells number 0) [
            | inl z ↦ simp (w.0, z.0)
            | inr z ↦
                let away : number - 1 ≢ n - 1 = λ q. w.1 (omega (arith, q, z.1, at_n.0))
                in simp (w.0, z.0) (get_set_other cs (n - 1) (number - 1) v away)
          ]
    ]

-- one client changed by f, and f leaves the others unchanged
pub set_is_map : {A : Type 0} (cs : List (ClientState A)) (n : ℕ) (c v : ClientState A) (f : ℕ → ClientState A → ClientState A) → client_state cs n ≡ Some c
    → ((number : ℕ) (d : ClientState A) → number ≢ n → f number d ≡ d) → f n c ≡ v
    → (number : ℕ) → client_state (slice_set cs (n - 1) v) number ≡ option_map (f number) (client_state cs number)
set_is_map cs n c v f found others own number =
    client_state-set cs n c v found number ∙ elim (eqb_tells number n) [
      | inl w ↦ simp w.0 (ap Some (sym own) ∙ ap (λ o. option_map (f n) o) (sym found) ∙ ap (λ m. option_map (f m) (client_state cs m)) (sym w.1))
      | inr w ↦ simp w.0 (sym (option_map-same (f number) (λ d. others number d w.1) (client_state cs number)))
    ]

module _ {S Q M A : Type 0} (gives : S → Q → M → S → A → Type 0) (has_died : S → Bool) (old : PortState S Q A) where
  module _ (step : Step Q M) (outcome : Outcome Q A) (closing : PortState S Q A) where
    abbrev e : Event Q M A
    e = record { step = step; outcome = outcome }

    -- the history of one step, whose given outcome is this one
    one_step : (given : Outcome Q A) → given ≡ outcome → (more : List (Serving Q M A)) (after : List S) → Run gives old.server more after
        → packets_of more ≡ take (length more) (old.waiting ++ accepted_in (e ∷ []))
        → map (λ s. s.moment) more ≡ moments_in (e ∷ [])
        → OutcomeFits old [] (has_died old.server) [] step outcome
        → closing.server ≡ last_server old.server after
        → closing.waiting ≡ drop (length more) (old.waiting ++ accepted_in (e ∷ []))
        → ((number : ℕ) → client_state closing.clients number ≡ option_map (client_now more (e ∷ []) number) (client_state old.clients number))
        → PortHistory gives has_died old (step ∷ []) (given ∷ []) closing
    one_step given is more after run order times fits is_server is_waiting is_clients = subst (λ o. PortHistory gives has_died old (step ∷ []) (o ∷ []) closing) (sym is) (record {
      served = more;
      servers = after;
      meaning = run;
      in_order = order;
      moments = times;
      as_long = refl;
      fits = only;
      closing_server = is_server;
      closing_waiting = is_waiting;
      closing_clients = is_clients;
    })
      where
        only : (i : ℕ) (f : Event Q M A) → slice_get (e ∷ []) i ≡ Some f
            → OutcomeFits old (take (served_count (take i (e ∷ []))) more) (has_died (server_by (take i (e ∷ [])) old.server after)) (take i (e ∷ [])) f.step f.outcome
        only zero f at = subst (λ (v : Event Q M A). OutcomeFits old [] (has_died old.server) [] v.step v.outcome) (same_Some e f at) fits
        only (suc i) f at = absurd (none-some f at)

    -- a step that changed nothing
    same_step : (given : Outcome Q A) → given ≡ outcome → packet_accepted step outcome ≡ None → moment_served step outcome ≡ None → reply_taken step outcome ≡ None → closing ≡ old
        → OutcomeFits old [] (has_died old.server) [] step outcome
        → PortHistory gives has_died old (step ∷ []) (given ∷ []) closing
    same_step given is no_packet no_moment no_reply same fits =
        one_step given is [] [] tt refl (ap (λ o. cons_option o []) (sym no_moment)) fits
        (ap (λ p. p.server) same)
        (ap (λ p. p.waiting) same ∙ sym (append-nil old.waiting) ∙ ap (λ o. old.waiting ++ cons_option o []) (sym no_packet))
        (λ number. ap (λ p. client_state p.clients number) same
        ∙ sym (option_map-same (client_now {Q = Q} {M = M} [] (e ∷ []) number) (λ c. simp (no_packet, no_reply, add-zero, append-nil)) (client_state old.clients number)))

  of_put : (client : ℕ) (packet : Q) (outcome : Outcome Q A) (closing : PortState S Q A) → PutGives has_died old client packet outcome closing
      → PortHistory gives has_died old (Put client packet ∷ []) (outcome ∷ []) closing
  of_put client packet outcome closing w = go (client_state old.clients client) refl (has_died old.server) refl w
    where
      go : (o : Option (ClientState A)) → client_state old.clients client ≡ o → (b : Bool) → has_died old.server ≡ b
          → MatchOption o ((outcome ≡ NoClient (Some packet)) × (closing ≡ old)) (λ c. MatchBool b
          ((outcome ≡ Refused (Closed packet)) × (closing ≡ old))
          (((outcome ≡ Accepted (c.accepted + 1)) × (closing ≡ record {
            server = old.server;
            clients = slice_set old.clients (client - 1) (record c { accepted = c.accepted + 1 });
            waiting = old.waiting ++ (client, packet) ∷ [];
          })) ⊎ ((outcome ≡ Refused (NoRoom packet)) × (closing ≡ old))))
          → PortHistory gives has_died old (Put client packet ∷ []) (outcome ∷ []) closing
      go None is_o b is_b v = same_step (Put client packet) (NoClient (Some packet)) closing outcome v.0 refl refl refl v.1 (simp is_o)
      go (Some c) is_o true is_b v = same_step (Put client packet) (Refused (Closed packet)) closing outcome v.0 refl refl refl v.1 (simp (is_o, is_b))
      go (Some c) is_o false is_b (inr v) = same_step (Put client packet) (Refused (NoRoom packet)) closing outcome v.0 refl refl refl v.1 (simp (is_o, is_b) (inr refl))
      go (Some c) is_o false is_b (inl v) = one_step (Put client packet) (Accepted (c.accepted + 1)) closing outcome v.0 [] [] tt refl refl (simp (is_o, is_b, add-zero) (inl refl))
          (ap (λ p. p.server) v.1) (ap (λ p. p.waiting) v.1)
          (λ number. ap (λ p. client_state p.clients number) v.1
          ∙ set_is_map old.clients client c (record c { accepted = c.accepted + 1 })
          (client_now {M = M} [] (record { step = Put client packet; outcome = Accepted (c.accepted + 1) } ∷ [])) is_o
          (λ n d away. simp (packets_by_past (client, packet) n [] (λ e. away (sym e)), add-zero, append-nil))
          (simp (packets_by_here (client, packet) client [] refl, add-zero, append-nil)) number)

  queue_length : length (queue {M = M} old []) ≡ length old.waiting
  queue_length = ap length (append-nil old.waiting)

  of_serve : (moment : M) (outcome : Outcome Q A) (closing : PortState S Q A) → ServeGives gives old moment outcome closing
      → PortHistory gives has_died old (Serve moment ∷ []) (outcome ∷ []) closing
  of_serve moment outcome closing (inl w) =
      let none : 0 ≡ length (queue {M = M} old []) = omega (arith, queue_length, ap length w.0)
      in same_step (Serve moment) Idle closing outcome w.1 refl refl refl w.2 (sym (ap (λ b. cond b Idle Served) (eq-eqb 0 (length (queue {M = M} old [])) none)))
  of_serve moment outcome closing (inr w) =
      let first : ℕ × Q = w.0
      in let c : ClientState A = w.4
      in let serving : Serving Q M A = record { client = first.0; packet = first.1; moment = moment; answer = w.7 }
      in let some : 0 ≢ length (queue {M = M} old []) = λ q. absurd (omega (arith, queue_length, ap length w.2, q))
      in one_step (Serve moment) Served closing outcome w.3 (serving ∷ []) (w.6 ∷ []) (w.8, tt)
      (sym (ap (λ l. take 1 (l ++ [])) w.2)) refl
      (sym (ap (λ b. cond b Idle Served) (ne_eqb 0 (length (queue {M = M} old [])) some)))
      (ap (λ p. p.server) w.9)
      (ap (λ p. p.waiting) w.9 ∙ sym (append-nil w.1) ∙ sym (ap (λ l. drop 1 (l ++ [])) w.2))
      (λ number. ap (λ p. client_state p.clients number) w.9
      ∙ set_is_map old.clients first.0 c (record c { untaken = c.untaken ++ w.7 ∷ [] })
      (client_now {M = M} (serving ∷ []) (record { step = Serve moment; outcome = Served } ∷ [])) w.5
      (λ n d away. simp (packets_by_past (first.0, w.7) n [] (λ e. away (sym e)), add-zero, append-nil))
      (simp (packets_by_here (first.0, w.7) first.0 [] refl, add-zero)) number)

  of_take : (client : ℕ) (outcome : Outcome Q A) (closing : PortState S Q A) → TakeGives old client outcome closing
      → PortHistory gives has_died old (Take client ∷ []) (outcome ∷ []) closing
  of_take client outcome closing w = go (client_state old.clients client) refl w
    where
      go : (o : Option (ClientState A)) → client_state old.clients client ≡ o
          → MatchOption o ((outcome ≡ NoClient None) × (closing ≡ old)) (λ c. ((c.untaken ≡ []) × (outcome ≡ Nothing) × (closing ≡ old))
          ⊎ ((answer : A) × (rest : List A) × (c.untaken ≡ answer ∷ rest)
          × (outcome ≡ Taken (record { number = c.taken + 1; answer = answer }))
          × (closing ≡ record old { clients = slice_set old.clients (client - 1) (record { accepted = c.accepted; taken = c.taken + 1; untaken = rest }) })))
          → PortHistory gives has_died old (Take client ∷ []) (outcome ∷ []) closing
      go None is_o v = same_step (Take client) (NoClient None) closing outcome v.0 refl refl refl v.1 (simp is_o)
      go (Some c) is_o (inl v) = same_step (Take client) Nothing closing outcome v.1 refl refl refl v.2 (simp (is_o, add-zero, append-nil, v.0))
      go (Some c) is_o (inr v) =
          let reply : Reply A = record { number = c.taken + 1; answer = v.0 }
          in one_step (Take client) (Taken reply) closing outcome v.3 [] [] tt refl refl (simp (is_o, add-zero, append-nil, v.2))
          (ap (λ p. p.server) v.4) (ap (λ p. p.waiting) v.4 ∙ sym (append-nil old.waiting))
          (λ number. ap (λ p. client_state p.clients number) v.4
          ∙ set_is_map old.clients client c (record { accepted = c.accepted; taken = c.taken + 1; untaken = v.1 })
          (client_now {Q = Q} {M = M} [] (record { step = Take client; outcome = Taken reply } ∷ [])) is_o
          (λ n d away. simp (packets_by_past (client, reply) n [] (λ e. away (sym e)), add-zero, append-nil))
          (simp (packets_by_here (client, reply) client [] refl, v.2, add-zero) (λ i. record { accepted = c.accepted; taken = c.taken + 1; untaken = append-nil v.1 i })) number)

  pub history_of_step : (step : Step Q M) (outcome : Outcome Q A) (closing : PortState S Q A) → StepGives gives has_died old step outcome closing
      → PortHistory gives has_died old (step ∷ []) (outcome ∷ []) closing
  history_of_step (Put client packet) outcome closing w = of_put client packet outcome closing w
  history_of_step (Serve moment) outcome closing w = of_serve moment outcome closing w
  history_of_step (Take client) outcome closing w = of_take client outcome closing w

-- a history and one more step
pub grow : {S Q M A : Type 0} (gives : S → Q → M → S → A → Type 0) (has_died : S → Bool) (opening : PortState S Q A) (steps : List (Step Q M)) (outcomes : List (Outcome Q A)) (mid : PortState S Q A)
    → PortHistory gives has_died opening steps outcomes mid → (step : Step Q M) (outcome : Outcome Q A) (closing : PortState S Q A) → StepGives gives has_died mid step outcome closing
    → PortHistory gives has_died opening (steps ++ step ∷ []) (outcomes ++ outcome ∷ []) closing
grow gives has_died opening steps outcomes mid h step outcome closing w =
    history_joins gives has_died opening steps outcomes mid h (step ∷ []) (outcome ∷ []) closing (history_of_step gives has_died mid step outcome closing w)
