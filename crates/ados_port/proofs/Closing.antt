-- A dead server stays dead, and its port stays closed.
use Rattle.std.proofs.Common.{◌≡◌, ℕ, zero, suc, ◌+◌, ◌≤◌, Bool, true, List, [], ◌∷◌, take, drop, slice_get, Some, arith, subst, MatchOption, refl, sym, ap, ◌∙◌}
use Rattle.ados_port.specs.History.{ClientState, PortState, client_state, Serving, Run, last_server, Event, events_of, client_now, PutFits, server_by, served_count, PortHistory, ClosedOnceDead}
use Rattle.ados_port.specs.Gives.{PutsAreClosed}
use Rattle.ados_port.specs.Lawful.{served_by}
use Rattle.ados_port.specs.declared.step.Step.{Step}
use Rattle.ados_port.specs.declared.step.Step.TheVariants.{Put}
use Rattle.ados_port.specs.declared.step.PutRefused.TheVariants.{Closed}
use Rattle.ados_port.specs.declared.step.Outcome.{Outcome}
use Rattle.ados_port.specs.declared.step.Outcome.TheVariants.{Refused, NoClient}
use Rattle.ados_port.proofs.Events.{served_count-take}

slice_get-drop : {A : Type 0} (xs : List A) (n k : ℕ) → slice_get (drop n xs) k ≡ slice_get xs (n + k)
slice_get-drop xs zero k = ap (slice_get xs) (omega arith)
slice_get-drop [] (suc n) k = refl
slice_get-drop (x ∷ xs) (suc n) k =
    let e : suc (n + k) ≡ suc n + k = omega arith in
    slice_get-drop xs n k ∙ ap (slice_get (x ∷ xs)) e

module _ {S Q M A : Type 0} (gives : S → Q → M → S → A → Type 0) (has_died : S → Bool)
    (stays_dead : (old new : S) (packet : Q) (moment : M) (answer : A) → gives old packet moment new answer → has_died old ≡ true → has_died new ≡ true) where
  -- a dead server is still dead after it serves packets
  pub run-dead : (old : S) (served : List (Serving Q M A)) (servers : List S) → Run gives old served servers → has_died old ≡ true → has_died (last_server old servers) ≡ true
  run-dead old [] [] run dead = dead
  run-dead old [] (new ∷ servers) run dead = elim run [ ]
  run-dead old (s ∷ served) [] run dead = elim run [ ]
  run-dead old (s ∷ served) (new ∷ servers) run dead = run-dead new served servers run.1 (stays_dead old new s.packet s.moment s.answer run.0 dead)

  -- a server that is dead after some packets is dead after more packets
  pub dead_later : (old : S) (served : List (Serving Q M A)) (servers : List S) → Run gives old served servers → (i j : ℕ) → i ≤ j
      → has_died (last_server old (take i servers)) ≡ true → has_died (last_server old (take j servers)) ≡ true
  dead_later old [] [] run i j before dead = dead_nil i j dead
    where
      dead_nil : (i j : ℕ) → has_died (last_server old (take i [])) ≡ true → has_died (last_server old (take j [])) ≡ true
      dead_nil zero zero d = d
      dead_nil zero (suc j) d = d
      dead_nil (suc i) zero d = d
      dead_nil (suc i) (suc j) d = d
  dead_later old [] (new ∷ servers) run i j before dead = elim run [ ]
  dead_later old (s ∷ served) [] run i j before dead = elim run [ ]
  dead_later old (s ∷ served) (new ∷ servers) run zero zero before dead = dead
  dead_later old (s ∷ served) (new ∷ servers) run zero (suc j) before dead = dead_later new served servers run.1 zero j (omega arith) (stays_dead old new s.packet s.moment s.answer run.0 dead)
  dead_later old (s ∷ served) (new ∷ servers) run (suc i) zero before dead = absurd (omega (arith, before))
  dead_later old (s ∷ served) (new ∷ servers) run (suc i) (suc j) before dead = dead_later new served servers run.1 i j (omega (arith, before)) dead

  module _ (opening : PortState S Q A) (steps : List (Step Q M)) (outcomes : List (Outcome Q A)) (closing : PortState S Q A) (h : PortHistory gives has_died opening steps outcomes closing) where
    -- after the server's death, each put by a client is refused as closed
    closed_behind : (i j client : ℕ) (packet : Q) (outcome : Outcome Q A) (c : ClientState A) → i ≤ j
        → has_died (server_by (take i (events_of steps outcomes)) opening.server h.servers) ≡ true
        → slice_get (events_of steps outcomes) j ≡ Some (record { step = Put client packet; outcome = outcome })
        → client_state opening.clients client ≡ Some c → outcome ≡ Refused (Closed packet)
    closed_behind i j client packet outcome c before dead at_j found =
        let events : List (Event Q M A) = events_of steps outcomes
        in let still : has_died (server_by (take j events) opening.server h.servers) ≡ true =
        dead_later opening.server h.served h.servers h.meaning (served_count (take i events)) (served_count (take j events)) (served_count-take events i j before) dead
        in let fits : PutFits (has_died (server_by (take j events) opening.server h.servers)) packet (client_now (served_by (take j events) h.served) (take j events) client c) outcome =
        subst (λ o. MatchOption o (outcome ≡ NoClient (Some packet)) (λ k. PutFits (has_died (server_by (take j events) opening.server h.servers)) packet (client_now (served_by (take j events) h.served) (take j events) client k) outcome)) found
        (h.fits j (record { step = Put client packet; outcome = outcome }) at_j)
        in subst (λ b. PutFits b packet (client_now (served_by (take j events) h.served) (take j events) client c) outcome) still fits

    -- after its server's death, a port is closed
    pub closed_after_death : ClosedOnceDead h
    closed_after_death count dead i client packet outcome c at_i found =
        closed_behind count (count + i) client packet outcome c (omega arith) dead (sym (slice_get-drop (events_of steps outcomes) count i) ∙ at_i) found

    -- a port with a dead server is closed
    pub dead-closed : has_died opening.server ≡ true → PutsAreClosed opening (events_of steps outcomes)
    dead-closed dead = closed_after_death 0 dead

    -- its server stays dead
    pub dead-closing : has_died opening.server ≡ true → has_died closing.server ≡ true
    dead-closing dead = subst (λ s. has_died s ≡ true) (sym h.closing_server) (run-dead opening.server h.served h.servers h.meaning dead)
