-- A client's replies come in the order of its packets, numbered from the first one not taken.
use Rattle.std.proofs.Common.{◌≡◌, ℕ, zero, suc, ◌+◌, Bool, List, [], ◌∷◌, ◌++◌, length, take, drop, slice_get, Some, None, MatchOption, sym, ap, subst, ◌∙◌, refl, inl, inr, arith, append_assoc, length-append}
use Rattle.std.specs.Prelude.{Option}
use Rattle.std.proofs.lemmas.List.{append-nil, take_all, take-append-drop}
use Rattle.std.proofs.lemmas.List.Elements.{filter_map-append}
use Rattle.std.proofs.lemmas.Option.{none-some, same_Some}
use Rattle.std.proofs.lemmas.Bool.Decides.{eqb_tells}
use Rattle.ados_port.specs.History.{ClientState, PortState, client_state, Serving, packets_by, Event, events_of, reply_taken, taken_in, taken_count, served_count, server_by, take_outcome, OutcomeFits, PortHistory}
use Rattle.ados_port.specs.Lawful.{served_by, answers_to, numbered}
use Rattle.ados_port.specs.declared.step.Step.{Step}
use Rattle.ados_port.specs.declared.step.Step.TheVariants.{Put, Serve, Take}
use Rattle.ados_port.specs.declared.step.Reply.{Reply}
use Rattle.ados_port.specs.declared.step.Outcome.{Outcome}
use Rattle.ados_port.specs.declared.step.Outcome.TheVariants.{Accepted, Refused, Served, Idle, Taken, Nothing, NoClient}
use Rattle.ados_port.proofs.Serving.{packets_by-append, packets_by-own, packets_by-other, answers_to-append}

-- one more element of a list
pub take-one_more : {X : Type 0} (k : ℕ) (xs : List X) (x : X) (rest : List X) → drop k xs ≡ x ∷ rest → take (suc k) xs ≡ take k xs ++ x ∷ []
take-one_more zero [] x rest e = cc
take-one_more zero (y ∷ ys) x rest e = ap (take 1) e
take-one_more (suc k) [] x rest e = cc
take-one_more (suc k) (y ∷ ys) x rest e = ap (λ l. y ∷ l) (take-one_more k ys x rest e)

pub take-at : {X : Type 0} (i : ℕ) (xs : List X) (x : X) → slice_get xs i ≡ Some x → take (suc i) xs ≡ take i xs ++ x ∷ []
take-at i [] x e = absurd (none-some x e)
take-at zero (y ∷ ys) x e = ap (λ v. v ∷ []) (same_Some y x e)
take-at (suc i) (y ∷ ys) x e = ap (λ l. y ∷ l) (take-at i ys x e)

pub take-past : {X : Type 0} (i : ℕ) (xs : List X) → slice_get xs i ≡ None → take (suc i) xs ≡ take i xs
take-past zero [] e = refl
take-past (suc i) [] e = refl
take-past zero (y ∷ ys) e = absurd (none-some y (sym e))
take-past (suc i) (y ∷ ys) e = ap (λ l. y ∷ l) (take-past i ys e)

-- the rest of a list is a prefix of the rest of a longer list
pub drop-longer : {X : Type 0} (k : ℕ) (xs ys : List X) (x : X) (rest : List X) → drop k xs ≡ x ∷ rest → drop k (xs ++ ys) ≡ x ∷ (rest ++ ys)
drop-longer zero xs ys x rest e = ap (λ l. l ++ ys) e
drop-longer (suc k) [] ys x rest e = cc
drop-longer (suc k) (z ∷ zs) ys x rest e = drop-longer k zs ys x rest e

pub length-take_of : {X : Type 0} (k : ℕ) (xs : List X) (x : X) (rest : List X) → drop k xs ≡ x ∷ rest → length (take k xs) ≡ k
length-take_of zero xs x rest e = refl
length-take_of (suc k) [] x rest e = cc
length-take_of (suc k) (z ∷ zs) x rest e = ap suc (length-take_of k zs x rest e)

-- the numbers continue
pub numbered-append : {A : Type 0} (n : ℕ) (xs ys : List A) → numbered n (xs ++ ys) ≡ numbered n xs ++ numbered (n + length xs) ys
numbered-append n [] ys = ap (λ k. numbered k ys) (omega arith)
numbered-append n (x ∷ xs) ys = ap (λ l. record { number = n; answer = x } ∷ l) (numbered-append (n + 1) xs ys ∙ ap (λ k. numbered (n + 1) xs ++ numbered k ys) (omega arith))

-- a take with a reply took the first remaining one
pub taken-first : {Q A : Type 0} (taken : ℕ) (left : List A) (reply : Reply A) → Taken reply ≡ take_outcome {Q = Q} taken left
    → (answer : A) × (rest : List A) × (left ≡ answer ∷ rest) × (reply ≡ record { number = taken + 1; answer = answer })
taken-first taken [] reply e = cc
taken-first {Q} {A} taken (answer ∷ rest) reply e =
    let both : Some (0, reply) ≡ Some (0, record { number = taken + 1; answer = answer }) = ap (reply_taken {Q = Q} {M = ℕ} (Take 0)) e
    in (answer, rest, refl, ap (λ p. p.1) (same_Some (0, reply) (0, record { number = taken + 1; answer = answer }) both))

module _ {S Q M A : Type 0} (opening : PortState S Q A) (served : List (Serving Q M A)) (client : ℕ) (c : ClientState A) (found : client_state opening.clients client ≡ Some c) where
  -- the replies for this client: the old ones, then those to the served packets
  abbrev pub replies_for : List A
  replies_for = c.untaken ++ answers_to client served

  -- the replies that the client took are the first ones for it
  abbrev pub TookFirst : List (Event Q M A) → Type 0
  TookFirst before = packets_by client (taken_in before) ≡ numbered (c.taken + 1) (take (taken_count client before) replies_for)

  taken-push : (before : List (Event Q M A)) (e : Event Q M A) → packets_by client (taken_in (before ++ e ∷ [])) ≡ packets_by client (taken_in before) ++ packets_by client (taken_in (e ∷ []))
  taken-push before e = ap (packets_by client) (filter_map-append _ before (e ∷ [])) ∙ packets_by-append client (taken_in before) (taken_in (e ∷ []))

  took_none : (before : List (Event Q M A)) (e : Event Q M A) → packets_by client (taken_in (e ∷ [])) ≡ [] → TookFirst before → TookFirst (before ++ e ∷ [])
  took_none before e none first = simp (taken-push, none, append-nil) first

  took_next : (before : List (Event Q M A)) (e : Event Q M A) (reply : Reply A) (answer : A) (rest : List A) → packets_by client (taken_in (e ∷ [])) ≡ reply ∷ []
      → drop (taken_count client before) replies_for ≡ answer ∷ rest → reply ≡ record { number = c.taken + taken_count client before + 1; answer = answer }
      → TookFirst before → TookFirst (before ++ e ∷ [])
  took_next before e reply answer rest one left is_reply first =
      let k : ℕ = taken_count client before
      in let same : packets_by client (taken_in (before ++ e ∷ [])) ≡ packets_by client (taken_in before) ++ reply ∷ [] = simp (taken-push, one)
      in let count : taken_count client (before ++ e ∷ []) ≡ suc k = omega (arith, ap length same, length-append (packets_by client (taken_in before)) (reply ∷ []))
      in let number : c.taken + k + 1 ≡ (c.taken + 1) + length (take k replies_for) = omega (arith, length-take_of k replies_for answer rest left)
      in same ∙ ap (λ l. l ++ reply ∷ []) first
      ∙ ap (λ r. numbered (c.taken + 1) (take k replies_for) ++ r ∷ []) (is_reply ∙ ap (λ n. record { number = n; answer = answer }) number)
      ∙ sym (numbered-append (c.taken + 1) (take k replies_for) (answer ∷ []))
      ∙ ap (numbered (c.taken + 1)) (sym (take-one_more k replies_for answer rest left))
      ∙ ap (λ n. numbered (c.taken + 1) (take n replies_for)) (sym count)

  -- the remaining replies so far are remaining replies of all
  left_of_all : (before : List (Event Q M A)) (k : ℕ) (answer : A) (rest : List A) → drop k (c.untaken ++ answers_to client (served_by before served)) ≡ answer ∷ rest
      → drop k replies_for ≡ answer ∷ (rest ++ answers_to client (drop (served_count before) served))
  left_of_all before k answer rest left =
      let all : replies_for ≡ (c.untaken ++ answers_to client (served_by before served)) ++ answers_to client (drop (served_count before) served) =
      ap (λ l. c.untaken ++ l) (ap (answers_to client) (sym (take-append-drop (served_count before) served)) ∙ answers_to-append client (served_by before served) (drop (served_count before) served))
      ∙ sym (append_assoc c.untaken (answers_to client (served_by before served)) (answers_to client (drop (served_count before) served)))
      in ap (drop k) all ∙ drop-longer k (c.untaken ++ answers_to client (served_by before served)) (answers_to client (drop (served_count before) served)) answer rest left

  took_one_more : (before : List (Event Q M A)) (died : Bool) (step : Step Q M) (outcome : Outcome Q A) → OutcomeFits opening (served_by before served) died before step outcome
      → TookFirst before → TookFirst (before ++ record { step = step; outcome = outcome } ∷ [])
  took_one_more before died (Put n packet) outcome fits first = took_none before (record { step = Put n packet; outcome = outcome }) refl first
  took_one_more before died (Serve moment) outcome fits first = took_none before (record { step = Serve moment; outcome = outcome }) refl first
  took_one_more before died (Take n) (Accepted number) fits first = took_none before (record { step = Take n; outcome = Accepted number }) refl first
  took_one_more before died (Take n) (Refused refused) fits first = took_none before (record { step = Take n; outcome = Refused refused }) refl first
  took_one_more before died (Take n) Served fits first = took_none before (record { step = Take n; outcome = Served }) refl first
  took_one_more before died (Take n) Idle fits first = took_none before (record { step = Take n; outcome = Idle }) refl first
  took_one_more before died (Take n) Nothing fits first = took_none before (record { step = Take n; outcome = Nothing }) refl first
  took_one_more before died (Take n) (NoClient packet) fits first = took_none before (record { step = Take n; outcome = NoClient packet }) refl first
  took_one_more before died (Take n) (Taken reply) fits first = elim (eqb_tells client n) [
    | inl w ↦
        let taken : Outcome Q A = Taken reply
        in let mine : OutcomeFits opening (served_by before served) died before (Take client) taken = subst (λ m. OutcomeFits opening (served_by before served) died before (Take m) taken) (sym w.1) fits
        in let gave : taken ≡ take_outcome (c.taken + taken_count client before) (drop (taken_count client before) (c.untaken ++ answers_to client (served_by before served))) =
        subst (λ o. MatchOption o (taken ≡ NoClient None) (λ d. taken ≡ take_outcome (d.taken + taken_count client before) (drop (taken_count client before) (d.untaken ++ answers_to client (served_by before served))))) found mine
        in let next = taken-first (c.taken + taken_count client before) (drop (taken_count client before) (c.untaken ++ answers_to client (served_by before served))) reply gave
        in took_next before (record { step = Take n; outcome = Taken reply }) reply next.0 (next.1 ++ answers_to client (drop (served_count before) served)) (packets_by-own n client reply w.1)
        (left_of_all before (taken_count client before) next.0 next.1 next.2) next.3 first
    | inr w ↦ took_none before (record { step = Take n; outcome = Taken reply }) (packets_by-other n client reply w.1) first
  ]

module _ {S Q M A : Type 0} (gives : S → Q → M → S → A → Type 0) (has_died : S → Bool) (opening : PortState S Q A) (steps : List (Step Q M)) (outcomes : List (Outcome Q A)) (closing : PortState S Q A) (h : PortHistory gives has_died opening steps outcomes closing)
    (client : ℕ) (c : ClientState A) (found : client_state opening.clients client ≡ Some c) where
  took_first_by : (i : ℕ) → TookFirst opening h.served client c found (take i (events_of steps outcomes))
  took_first_by zero = refl
  took_first_by (suc i) = go (slice_get (events_of steps outcomes) i) refl (took_first_by i)
    where
      go : (o : Option (Event Q M A)) → slice_get (events_of steps outcomes) i ≡ o → TookFirst opening h.served client c found (take i (events_of steps outcomes)) → TookFirst opening h.served client c found (take (suc i) (events_of steps outcomes))
      go None at_i first = subst (TookFirst opening h.served client c found) (sym (take-past i (events_of steps outcomes) at_i)) first
      go (Some e) at_i first = subst (TookFirst opening h.served client c found) (sym (take-at i (events_of steps outcomes) e at_i))
          (took_one_more opening h.served client c found (take i (events_of steps outcomes)) (has_died (server_by (take i (events_of steps outcomes)) opening.server h.servers)) e.step e.outcome (h.fits i e at_i) first)

  -- the replies that a client took in a history are the first ones for it
  pub took_first : TookFirst opening h.served client c found (events_of steps outcomes)
  took_first = subst (TookFirst opening h.served client c found) (take_all (length (events_of steps outcomes)) (events_of steps outcomes) (omega arith)) (took_first_by (length (events_of steps outcomes)))
