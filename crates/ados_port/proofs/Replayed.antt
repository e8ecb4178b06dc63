-- Lawful lists have a history: first all puts, in the order of the served and then the waiting packets; then the
-- serves; then each client's takes.
use Rattle.std.proofs.Common.{◌≡◌, ◌≢◌, ℕ, zero, suc, ◌+◌, ◌-◌, ◌<◌, ◌≤◌, Bool, false, cond, List, [], ◌∷◌, ◌++◌, map, length, take, drop, replicate, slice_get, Some, None, MatchOption, refl, sym, ap, subst, ◌∙◌, inl, arith, append_assoc, length-append}
use Rattle.std.specs.Prelude.{Option}
use Rattle.std.specs.Option.{option_map}
use Rattle.std.proofs.lemmas.List.{append-nil, take_all, length-map, length-replicate, map-append}
use Rattle.std.proofs.lemmas.List.Elements.{filter_map-append}
use Rattle.std.proofs.lemmas.Option.{none-some, same_Some, slice_get-map, slice_get_past, slice_get_within}
use Rattle.std.proofs.Math.Seq.{take-append_seam, drop-append_seam}
use Rattle.ados_port.specs.History.{ClientState, PortState, client_state, opening_port, Serving, packets_by, last_server, Event, events_of, accepted_in, moments_in, taken_in, served_count, taken_count, queue, client_now, PutFits, take_outcome, OutcomeFits, server_by, PortHistory}
use Rattle.ados_port.specs.Lawful.{served_by, packets_of, answers_to, numbered, ClientLists, Lawful}
use Rattle.ados_port.specs.Lists.{ListsOf, HasHistory}
use Rattle.ados_port.specs.Laws.{ListsHaveAHistory}
use Rattle.ados_port.specs.declared.step.Step.{Step}
use Rattle.ados_port.specs.declared.step.Step.TheVariants.{Put, Serve, Take}
use Rattle.ados_port.specs.declared.step.Reply.{Reply}
use Rattle.ados_port.specs.declared.step.Outcome.{Outcome}
use Rattle.ados_port.specs.declared.step.Outcome.TheVariants.{Accepted, Served, Idle, Taken, NoClient}
use Rattle.ados_port.proofs.Numbers.{eq_false}
use Rattle.ados_port.proofs.Serving.{packets_by-append, packets_by-own, packets_by-other}
use Rattle.ados_port.proofs.Lawful.{client_at, slice_get-replicate, history-lawful}

-- numbered replies, split in two
module _ {A : Type 0} where
  answers-numbered : (n : ℕ) (answers : List A) → map (λ (r : Reply A). r.answer) (numbered n answers) ≡ answers
  answers-numbered n [] = refl
  answers-numbered n (a ∷ answers) = ap (λ l. a ∷ l) (answers-numbered (n + 1) answers)

  record Cut (n : ℕ) (reply : Reply A) (left : List A) : Type 0 where
    rest : List A
    first : left ≡ reply.answer ∷ rest
    number : reply ≡ record { number = n; answer = reply.answer }

  cut_at : (n : ℕ) (front : List (Reply A)) (reply : Reply A) (behind : List (Reply A)) (answers : List A) → front ++ reply ∷ behind ≡ numbered n answers
      → Cut (n + length front) reply (drop (length front) answers)
  cut_at n [] reply behind [] e = cc
  cut_at n [] reply behind (a ∷ answers) e =
      let same : reply ≡ record { number = n; answer = a } = cc
      in let answer : a ≡ reply.answer = ap (λ (r : Reply A). r.answer) (sym same)
      in let own : reply ≡ record { number = n; answer = reply.answer } = same ∙ ap (λ x. record { number = n; answer = x }) answer
      in let k : n ≡ n + 0 = omega arith
      in record { rest = answers; first = ap (λ x. x ∷ answers) answer; number = own ∙ ap (λ m. record { number = m; answer = reply.answer }) k }
  cut_at n (r ∷ front) reply behind [] e = cc
  cut_at n (r ∷ front) reply behind (a ∷ answers) e =
      let less : front ++ reply ∷ behind ≡ numbered (n + 1) answers = cc
      in let m : n + 1 + length front ≡ n + length (r ∷ front) = omega arith
      in subst (λ k. Cut k reply (drop (length front) answers)) m (cut_at (n + 1) front reply behind answers less)

  numbers_behind : (n : ℕ) (front behind : List (Reply A)) (answers : List A) → front ++ behind ≡ numbered n answers
      → behind ≡ numbered (n + length front) (map (λ (r : Reply A). r.answer) behind)
  numbers_behind n [] behind answers e =
      let k : n ≡ n + 0 = omega arith
      in e ∙ ap (λ l. numbered n l) (sym (ap (map (λ (r : Reply A). r.answer)) e ∙ answers-numbered n answers)) ∙ ap (λ m. numbered m (map (λ (r : Reply A). r.answer) behind)) k
  numbers_behind n (r ∷ front) behind [] e = cc
  numbers_behind n (r ∷ front) behind (a ∷ answers) e =
      let less : front ++ behind ≡ numbered (n + 1) answers = cc
      in let m : n + 1 + length front ≡ n + length (r ∷ front) = omega arith
      in numbers_behind (n + 1) front behind answers less ∙ ap (λ k. numbered k (map (λ (r : Reply A). r.answer) behind)) m

-- the values of one client in a list with one client
module _ {X : Type 0} where
  abbrev tag : ℕ → List X → List (ℕ × X)
  tag client xs = map (λ x. (client, x)) xs

  tagged_own : (client : ℕ) (xs : List X) → packets_by client (tag client xs) ≡ xs
  tagged_own client [] = refl
  tagged_own client (x ∷ xs) =
      packets_by-append client ((client, x) ∷ []) (tag client xs) ∙ simp (packets_by-own client client x refl, tagged_own client xs)

  tagged_other : (other client : ℕ) (xs : List X) → client ≢ other → packets_by client (tag other xs) ≡ []
  tagged_other other client [] apart = refl
  tagged_other other client (x ∷ xs) apart =
      packets_by-append client ((other, x) ∷ []) (tag other xs) ∙ simp (packets_by-other other client x apart) (tagged_other other client xs apart)

-- the events, what they put, serve and take, and that they fit
module _ {S Q M A : Type 0} (gives : S → Q → M → S → A → Type 0) (has_died : S → Bool) (opening : S) (clients : List (ClientLists Q A)) (served : List (Serving Q M A)) (unanswered : List (ℕ × Q)) (closing : S)
    (living : has_died opening ≡ false) (lawful : Lawful gives opening clients served unanswered closing) where
  again : (events : List (Event Q M A)) → events_of (map (λ e. e.step) events) (map (λ e. e.outcome) events) ≡ events
  again [] = refl
  again (e ∷ events) = ap (λ l. e ∷ l) (again events)

  -- the puts of packets after these ones
  abbrev puts : List (ℕ × Q) → List (ℕ × Q) → List (Event Q M A)
  puts before [] = []
  puts before (p ∷ ps) = record { step = Put p.0 p.1; outcome = Accepted (0 + length (packets_by p.0 before) + 1) } ∷ puts (before ++ p ∷ []) ps

  abbrev serves : List (Serving Q M A) → List (Event Q M A)
  serves [] = []
  serves (s ∷ served) = record { step = Serve s.moment; outcome = Served } ∷ serves served

  abbrev takes : ℕ → List (Reply A) → List (Event Q M A)
  takes client [] = []
  takes client (reply ∷ replies) = record { step = Take client; outcome = Taken reply } ∷ takes client replies

  -- the takes of clients from this number
  abbrev all_takes : ℕ → List (ClientLists Q A) → List (Event Q M A)
  all_takes number [] = []
  all_takes number (c ∷ cs) = takes number c.taken ++ all_takes (suc number) cs

  abbrev replayed : List (ClientLists Q A) → List (Serving Q M A) → List (ℕ × Q) → List (Event Q M A)
  replayed clients served unanswered = puts [] (packets_of served ++ unanswered) ++ (serves served ++ all_takes 1 clients)

  accepted-puts : (before ps : List (ℕ × Q)) → accepted_in (puts before ps) ≡ ps
  accepted-puts before [] = refl
  accepted-puts before (p ∷ ps) = ap (λ l. p ∷ l) (accepted-puts (before ++ p ∷ []) ps)

  moments-puts : (before ps : List (ℕ × Q)) → moments_in (puts before ps) ≡ []
  moments-puts before [] = refl
  moments-puts before (p ∷ ps) = moments-puts (before ++ p ∷ []) ps

  taken-puts : (before ps : List (ℕ × Q)) → taken_in (puts before ps) ≡ []
  taken-puts before [] = refl
  taken-puts before (p ∷ ps) = taken-puts (before ++ p ∷ []) ps

  accepted-serves : (served : List (Serving Q M A)) → accepted_in (serves served) ≡ []
  accepted-serves [] = refl
  accepted-serves (s ∷ served) = accepted-serves served

  moments-serves : (served : List (Serving Q M A)) → moments_in (serves served) ≡ map (λ s. s.moment) served
  moments-serves [] = refl
  moments-serves (s ∷ served) = ap (λ l. s.moment ∷ l) (moments-serves served)

  taken-serves : (served : List (Serving Q M A)) → taken_in (serves served) ≡ []
  taken-serves [] = refl
  taken-serves (s ∷ served) = taken-serves served

  accepted-takes : (client : ℕ) (replies : List (Reply A)) → accepted_in (takes client replies) ≡ []
  accepted-takes client [] = refl
  accepted-takes client (r ∷ replies) = accepted-takes client replies

  moments-takes : (client : ℕ) (replies : List (Reply A)) → moments_in (takes client replies) ≡ []
  moments-takes client [] = refl
  moments-takes client (r ∷ replies) = moments-takes client replies

  taken-takes : (client : ℕ) (replies : List (Reply A)) → taken_in (takes client replies) ≡ tag client replies
  taken-takes client [] = refl
  taken-takes client (r ∷ replies) = ap (λ l. (client, r) ∷ l) (taken-takes client replies)

  accepted-all_takes : (number : ℕ) (clients : List (ClientLists Q A)) → accepted_in (all_takes number clients) ≡ []
  accepted-all_takes number [] = refl
  accepted-all_takes number (c ∷ cs) = simp (filter_map-append, accepted-takes) (accepted-all_takes (suc number) cs)

  moments-all_takes : (number : ℕ) (clients : List (ClientLists Q A)) → moments_in (all_takes number clients) ≡ []
  moments-all_takes number [] = refl
  moments-all_takes number (c ∷ cs) = simp (filter_map-append, moments-takes) (moments-all_takes (suc number) cs)

  -- the replies that a client takes among these clients
  taken_by : (client number : ℕ) (c : ClientLists Q A) (cs : List (ClientLists Q A))
      → packets_by client (taken_in (all_takes number (c ∷ cs))) ≡ packets_by client (tag number c.taken) ++ packets_by client (taken_in (all_takes (suc number) cs))
  taken_by client number c cs = simp (filter_map-append, taken-takes, packets_by-append)

  none_below : (client number : ℕ) (clients : List (ClientLists Q A)) → client < number → packets_by client (taken_in (all_takes number clients)) ≡ []
  none_below client number [] below = refl
  none_below client number (c ∷ cs) below =
      simp (taken_by, tagged_other number client c.taken (λ e. absurd (omega (arith, below, e)))) (none_below client (suc number) cs (omega (arith, below)))

  own_takes : (client number place : ℕ) (clients : List (ClientLists Q A)) (lists : ClientLists Q A) → client ≡ number + place → slice_get clients place ≡ Some lists
      → packets_by client (taken_in (all_takes number clients)) ≡ lists.taken
  own_takes client number place [] lists is at = absurd (none-some lists at)
  own_takes client number zero (c ∷ cs) lists is at =
      let here : number ≡ client = omega (arith, is)
      in taken_by client number c cs
      ∙ ap (λ l. packets_by client (tag number c.taken) ++ l) (none_below client (suc number) cs (omega (arith, is)))
      ∙ append-nil (packets_by client (tag number c.taken))
      ∙ ap (λ n. packets_by client (tag n c.taken)) here
      ∙ tagged_own client c.taken
      ∙ ap (λ (l : ClientLists Q A). l.taken) (same_Some c lists at)
  own_takes client number (suc place) (c ∷ cs) lists is at =
      simp (taken_by, tagged_other number client c.taken (λ e. absurd (omega (arith, is, e)))) (own_takes client (suc number) place cs lists (omega (arith, is)) at)

  abbrev servers : List S
  servers = lawful.meaning.0

  abbrev count : ℕ
  count = length clients

  abbrev start : PortState S Q A
  start = opening_port opening count

  abbrev fresh : ClientState A
  fresh = record { accepted = 0; taken = 0; untaken = [] }

  abbrev Fits : List (Event Q M A) → Event Q M A → Type 0
  Fits before e = OutcomeFits start (served_by before served) (has_died (server_by before opening servers)) before e.step e.outcome

  -- these events fit after those
  abbrev AllFit : List (Event Q M A) → List (Event Q M A) → Type 0
  AllFit before [] = Unit {0}
  AllFit before (e ∷ events) = Fits before e × AllFit (before ++ e ∷ []) events

  all_fit-append : (before xs ys : List (Event Q M A)) → AllFit before xs → AllFit (before ++ xs) ys → AllFit before (xs ++ ys)
  all_fit-append before [] ys first later = subst (λ b. AllFit b ys) (append-nil before) later
  all_fit-append before (x ∷ xs) ys first later =
      (first.0, all_fit-append (before ++ x ∷ []) xs ys first.1 (subst (λ b. AllFit b ys) (sym (append_assoc before (x ∷ []) xs)) later))

  fits_at : (before events : List (Event Q M A)) → AllFit before events → (i : ℕ) (e : Event Q M A) → slice_get events i ≡ Some e → Fits (before ++ take i events) e
  fits_at before [] fit i e at = absurd (none-some e at)
  fits_at before (x ∷ events) fit zero e at = subst (λ b. Fits b e) (sym (append-nil before)) (subst (Fits before) (same_Some x e at) fit.0)
  fits_at before (x ∷ events) fit (suc i) e at = subst (λ b. Fits b e) (append_assoc before (x ∷ []) (take i events)) (fits_at (before ++ x ∷ []) events fit.1 i e at)

  fresh_client : (client : ℕ) → 1 ≤ client → client ≤ count → client_state (replicate count fresh) client ≡ Some fresh
  fresh_client client low high =
      let place : ℕ = client - 1
      in let is : client ≡ place + 1 = omega (arith, low)
      in ap (client_state (replicate count fresh)) is ∙ client_at (replicate count fresh) place ∙ slice_get-replicate count place fresh (omega (arith, low, high))

  put_fits : (before : List (Event Q M A)) (earlier : List (ℕ × Q)) (p : ℕ × Q) → accepted_in before ≡ earlier → moments_in before ≡ [] → (1 ≤ p.0) × (p.0 ≤ count)
      → Fits before (record { step = Put p.0 p.1; outcome = Accepted (0 + length (packets_by p.0 earlier) + 1) })
  put_fits before earlier p is none known =
      let outcome : Outcome Q A = Accepted (0 + length (packets_by p.0 earlier) + 1)
      in let died : Bool = has_died (server_by before opening servers)
      in let alive : died ≡ false = ap (λ l. has_died (last_server opening (take (length l) servers))) none ∙ living
      in let next : outcome ≡ Accepted (0 + length (packets_by p.0 (accepted_in before)) + 1) = ap (λ l. Accepted (0 + length (packets_by p.0 l) + 1)) (sym is)
      in let fits : PutFits died p.1 (client_now (served_by before served) before p.0 fresh) outcome =
      subst (λ b. PutFits b p.1 (client_now (served_by before served) before p.0 fresh) outcome) (sym alive) (inl next)
      in subst (λ o. MatchOption o (outcome ≡ NoClient (Some p.1)) (λ c. PutFits died p.1 (client_now (served_by before served) before p.0 c) outcome))
      (sym (fresh_client p.0 known.0 known.1)) fits

  puts_fit : (before : List (Event Q M A)) (earlier ps : List (ℕ × Q)) → accepted_in before ≡ earlier → moments_in before ≡ []
      → ((place : ℕ) (p : ℕ × Q) → slice_get ps place ≡ Some p → (1 ≤ p.0) × (p.0 ≤ count)) → AllFit before (puts earlier ps)
  puts_fit before earlier [] is none known = tt
  puts_fit before earlier (p ∷ ps) is none known =
      let e : Event Q M A = record { step = Put p.0 p.1; outcome = Accepted (0 + length (packets_by p.0 earlier) + 1) }
      in (
        put_fits before earlier p is none (known 0 p refl),
        puts_fit (before ++ e ∷ []) (earlier ++ p ∷ []) ps
            (simp (filter_map-append, is))
            (simp (filter_map-append, none))
            (λ place q at. known (suc place) q at),
      )

  serve_fits : (before : List (Event Q M A)) (done : List (Serving Q M A)) (s : Serving Q M A) (rest : List (Serving Q M A)) → served ≡ done ++ s ∷ rest
      → accepted_in before ≡ packets_of served ++ unanswered → served_count before ≡ length done → Fits before (record { step = Serve s.moment; outcome = Served })
  serve_fits before done s rest is all so_many =
      let front : served_by before served ≡ done =
      simp so_many (ap (take (length done)) is ∙ take-append_seam done (s ∷ rest))
      in let had : length (accepted_in before) ≡ length served + length unanswered =
      simp (all, length-append, length-map)
      in let more : length served ≡ length done + suc (length rest) = ap length is ∙ length-append done (s ∷ rest)
      in let apart : length (served_by before served) ≢ length (accepted_in before) = λ same. absurd (omega (arith, same, ap length front, had, more))
      in ap (λ b. cond b Idle Served) (sym (eq_false (length (served_by before served)) (length (accepted_in before)) apart))

  serves_fit : (before : List (Event Q M A)) (done rest : List (Serving Q M A)) → served ≡ done ++ rest
      → accepted_in before ≡ packets_of served ++ unanswered → served_count before ≡ length done → AllFit before (serves rest)
  serves_fit before done [] is all so_many = tt
  serves_fit before done (s ∷ rest) is all so_many =
      let e : Event Q M A = record { step = Serve s.moment; outcome = Served }
      in (
        serve_fits before done s rest is all so_many,
        serves_fit (before ++ e ∷ []) (done ++ s ∷ []) rest
            (is ∙ sym (append_assoc done (s ∷ []) rest))
            (simp (filter_map-append, append-nil, all))
            (simp (filter_map-append, length-append, so_many)),
      )

  take_fits : (before : List (Event Q M A)) (client : ℕ) (reply : Reply A) (behind : List (Reply A)) → client_state (replicate count fresh) client ≡ Some fresh → length served ≤ served_count before
      → packets_by client (taken_in before) ++ reply ∷ behind ≡ numbered 1 (answers_to client served) → Fits before (record { step = Take client; outcome = Taken reply })
  take_fits before client reply behind found all is =
      let k : ℕ = taken_count client before
      in let outcome : Outcome Q A = Taken reply
      in let whole : served_by before served ≡ served = take_all (served_count before) served all
      in let cut : Cut (1 + k) reply (drop k (answers_to client served)) = cut_at 1 (packets_by client (taken_in before)) reply behind (answers_to client served) is
      in let left : drop k (answers_to client (served_by before served)) ≡ reply.answer ∷ cut.rest = ap (λ l. drop k (answers_to client l)) whole ∙ cut.first
      in let number : 1 + k ≡ 0 + k + 1 = omega arith
      in let gave : outcome ≡ take_outcome (0 + k) (drop k (answers_to client (served_by before served))) =
      ap Taken (cut.number ∙ ap (λ n. record { number = n; answer = reply.answer }) number) ∙ ap (take_outcome (0 + k)) (sym left)
      in subst (λ o. MatchOption o (outcome ≡ NoClient None) (λ c. outcome ≡ take_outcome (c.taken + k) (drop k (c.untaken ++ answers_to client (served_by before served))))) (sym found) gave

  takes_fit : (before : List (Event Q M A)) (client : ℕ) (replies left : List (Reply A)) → client_state (replicate count fresh) client ≡ Some fresh → length served ≤ served_count before
      → packets_by client (taken_in before) ++ (replies ++ left) ≡ numbered 1 (answers_to client served) → AllFit before (takes client replies)
  takes_fit before client [] left found all is = tt
  takes_fit before client (reply ∷ replies) left found all is =
      let e : Event Q M A = record { step = Take client; outcome = Taken reply }
      in let none : served_count (before ++ e ∷ []) ≡ served_count before = simp (filter_map-append, append-nil)
      in let one : packets_by client (taken_in (before ++ e ∷ [])) ≡ packets_by client (taken_in before) ++ reply ∷ [] = simp (filter_map-append, packets_by-append, packets_by-own client client reply refl)
      in (
        take_fits before client reply (replies ++ left) found all is,
        takes_fit (before ++ e ∷ []) client replies left found (omega (arith, all, none))
            (ap (λ l. l ++ (replies ++ left)) one ∙ append_assoc (packets_by client (taken_in before)) (reply ∷ []) (replies ++ left) ∙ is),
      )

  -- a client has taken the first of its replies
  record HasTaken (client : ℕ) (lists : ClientLists Q A) : Type 0 where
    there : client_state (replicate count fresh) client ≡ Some fresh
    replies : lists.taken ++ lists.untaken ≡ numbered 1 (answers_to client served)

  all_takes_fit : (before : List (Event Q M A)) (number : ℕ) (clients : List (ClientLists Q A))
      → ((place : ℕ) (lists : ClientLists Q A) → slice_get clients place ≡ Some lists → HasTaken (number + place) lists)
      → length served ≤ served_count before → ((client : ℕ) → number ≤ client → packets_by client (taken_in before) ≡ [])
      → AllFit before (all_takes number clients)
  all_takes_fit before number [] each all none = tt
  all_takes_fit before number (c ∷ cs) each all none =
      let now : List (Event Q M A) = before ++ takes number c.taken
      in let here : number + 0 ≡ number = omega arith
      in let first : HasTaken number c = subst (λ n. HasTaken n c) here (each 0 c refl)
      in let same : served_count now ≡ served_count before = simp (filter_map-append, moments-takes, append-nil)
      in all_fit-append before (takes number c.taken) (all_takes (suc number) cs)
      (takes_fit before number c.taken c.untaken first.there all (ap (λ l. l ++ (c.taken ++ c.untaken)) (none number (omega arith)) ∙ first.replies))
      (all_takes_fit now (suc number) cs
      (λ place lists at. let m : number + suc place ≡ suc number + place = omega arith in subst (λ n. HasTaken n lists) m (each (suc place) lists at))
      (omega (arith, all, same))
      (λ client above. simp (filter_map-append, taken-takes, packets_by-append, none client (omega (arith, above)), tagged_other number client c.taken (λ e. absurd (omega (arith, above, e))))))

  abbrev packets : List (ℕ × Q)
  packets = packets_of served ++ unanswered

  abbrev events : List (Event Q M A)
  events = replayed clients served unanswered

  accepted-events : accepted_in events ≡ packets
  accepted-events = simp (filter_map-append, accepted-puts, accepted-serves, accepted-all_takes) (append-nil packets)

  moments-events : moments_in events ≡ map (λ s. s.moment) served
  moments-events = simp (filter_map-append, moments-puts, moments-serves, moments-all_takes) (append-nil (map (λ s. s.moment) served))

  taken-events : taken_in events ≡ taken_in (all_takes 1 clients)
  taken-events = simp (filter_map-append, taken-puts, taken-serves)

  each_has_taken : (place : ℕ) (lists : ClientLists Q A) → slice_get clients place ≡ Some lists → HasTaken (1 + place) lists
  each_has_taken place lists at =
      let within : place < count = slice_get_within clients place lists at
      in let number : place + 1 ≡ 1 + place = omega arith
      in record {
        there = fresh_client (1 + place) (omega arith) (omega (arith, within));
        replies = lawful.each_reply place lists at ∙ ap (λ n. numbered 1 (answers_to n served)) number;
      }

  events_fit : AllFit [] events
  events_fit =
      let put : List (Event Q M A) = puts [] packets
      in let both : List (Event Q M A) = put ++ serves served
      in let so_many : served_count both ≡ length served = simp (filter_map-append, moments-puts, moments-serves) (length-map served (λ s. s.moment))
      in all_fit-append [] put (serves served ++ all_takes 1 clients)
      (puts_fit [] [] packets refl refl lawful.known)
      (all_fit-append put (serves served) (all_takes 1 clients)
      (serves_fit put [] served refl (accepted-puts [] packets) (ap length (moments-puts [] packets)))
      (all_takes_fit both 1 clients each_has_taken (omega (arith, so_many))
      (λ client above. simp (filter_map-append, taken-puts, taken-serves))))

  put_is : (place : ℕ) (lists : ClientLists Q A) → slice_get clients place ≡ Some lists → lists.put ≡ packets_by (place + 1) (accepted_in events)
  put_is place lists at =
      simp (accepted-events, packets_by-append) (sym (lawful.each_put place lists at))

  taken_is : (place : ℕ) (lists : ClientLists Q A) → slice_get clients place ≡ Some lists → lists.taken ≡ packets_by (place + 1) (taken_in events)
  taken_is place lists at = sym (ap (packets_by (place + 1)) taken-events ∙ own_takes (place + 1) 1 place clients lists (omega arith) at)

  untaken_is : (place : ℕ) (lists : ClientLists Q A) → slice_get clients place ≡ Some lists
      → map (λ (r : Reply A). r.answer) lists.untaken ≡ drop (taken_count (place + 1) events) (answers_to (place + 1) served)
  untaken_is place lists at =
      let taken : List A = map (λ (r : Reply A). r.answer) lists.taken
      in let untaken : List A = map (λ (r : Reply A). r.answer) lists.untaken
      in let all : taken ++ untaken ≡ answers_to (place + 1) served =
      sym (map-append (λ (r : Reply A). r.answer) lists.taken lists.untaken) ∙ ap (map (λ (r : Reply A). r.answer)) (lawful.each_reply place lists at) ∙ answers-numbered 1 (answers_to (place + 1) served)
      in let so_many : length taken ≡ taken_count (place + 1) events = length-map lists.taken (λ r. r.answer) ∙ ap length (taken_is place lists at)
      in sym (drop-append_seam taken untaken) ∙ ap (drop (length taken)) all ∙ ap (λ n. drop n (answers_to (place + 1) served)) so_many

  -- a client after its lists
  abbrev last_client : ClientLists Q A → ClientState A
  last_client lists = record { accepted = length lists.put; taken = length lists.taken; untaken = map (λ (r : Reply A). r.answer) lists.untaken }

  abbrev last : PortState S Q A
  last = record { server = closing; clients = map last_client clients; waiting = unanswered }

  counted : (place : ℕ) (lists : ClientLists Q A) → slice_get clients place ≡ Some lists → last_client lists ≡ client_now served events (place + 1) fresh
  counted place lists at =
      let put : length lists.put ≡ 0 + length (packets_by (place + 1) (accepted_in events)) = omega (arith, ap length (put_is place lists at))
      in let taken : length lists.taken ≡ 0 + taken_count (place + 1) events = omega (arith, ap length (taken_is place lists at))
      in let untaken = untaken_is place lists at
      in λ i. record { accepted = put i; taken = taken i; untaken = untaken i }

  last_at : (place : ℕ) (lists : ClientLists Q A) → slice_get clients place ≡ Some lists → client_state last.clients (place + 1) ≡ Some (last_client lists)
  last_at place lists at = client_at (map last_client clients) place ∙ slice_get-map last_client clients place ∙ ap (option_map last_client) at

  past : {X : Type 0} (xs : List X) (i : ℕ) → slice_get xs i ≡ None → length xs ≤ i
  past [] i e = omega arith
  past (x ∷ xs) zero e = absurd (none-some x (sym e))
  past (x ∷ xs) (suc i) e = let more = past xs i e in omega (arith, more)

  abbrev IsCounted : ℕ → Type 0
  IsCounted number = client_state last.clients number ≡ option_map (client_now served events number) (client_state start.clients number)

  counted_at : (place : ℕ) → IsCounted (place + 1)
  counted_at place = go (slice_get clients place) refl
    where
      go : (o : Option (ClientLists Q A)) → slice_get clients place ≡ o → IsCounted (place + 1)
      go (Some lists) at =
          let within : place < count = slice_get_within clients place lists at
          in last_at place lists at ∙ ap Some (counted place lists at)
          ∙ ap (option_map (client_now served events (place + 1))) (sym (fresh_client (place + 1) (omega arith) (omega (arith, within))))
      go None at =
          let beyond : length (replicate count fresh) ≤ place = omega (arith, past clients place at, length-replicate count fresh)
          in client_at (map last_client clients) place ∙ slice_get-map last_client clients place ∙ ap (option_map last_client) at
          ∙ ap (option_map (client_now served events (place + 1))) (sym (client_at (replicate count fresh) place ∙ slice_get_past (replicate count fresh) place beyond))

  all_counted : (number : ℕ) → IsCounted number
  all_counted zero = refl
  all_counted (suc place) = let number : place + 1 ≡ suc place = omega arith in subst IsCounted number (counted_at place)

  abbrev steps : List (Step Q M)
  steps = map (λ (e : Event Q M A). e.step) events

  abbrev outcomes : List (Outcome Q A)
  outcomes = map (λ (e : Event Q M A). e.outcome) events

  abbrev of_events : (P : List (Event Q M A) → Type 0) → P events → P (events_of steps outcomes)
  of_events P p = subst P (sym (again events)) p

  first_packets : take (length served) packets ≡ packets_of served
  first_packets = ap (λ n. take n packets) (sym (length-map served (λ s. (s.client, s.packet)))) ∙ take-append_seam (packets_of served) unanswered

  last_packets : drop (length served) packets ≡ unanswered
  last_packets = ap (λ n. drop n packets) (sym (length-map served (λ s. (s.client, s.packet)))) ∙ drop-append_seam (packets_of served) unanswered

  replay : PortHistory gives has_died start steps outcomes last
  replay = record {
    served = served;
    servers = servers;
    meaning = lawful.meaning.1;
    in_order = of_events (λ es. packets_of served ≡ take (length served) (queue start es)) (sym (ap (take (length served)) accepted-events ∙ first_packets));
    moments = of_events (λ es. map (λ s. s.moment) served ≡ moments_in es) (sym moments-events);
    as_long = length-map events (λ e. e.outcome) ∙ sym (length-map events (λ e. e.step));
    fits = of_events (λ es. (i : ℕ) (e : Event Q M A) → slice_get es i ≡ Some e → Fits (take i es) e) (fits_at [] events events_fit);
    closing_server = sym lawful.meaning.2;
    closing_waiting = of_events (λ es. unanswered ≡ drop (length served) (queue start es)) (sym (ap (drop (length served)) accepted-events ∙ last_packets));
    closing_clients = of_events (λ es. (number : ℕ) → client_state last.clients number ≡ option_map (client_now served es number) (client_state start.clients number)) all_counted;
  }

  replayed_lists : ListsOf count (events_of steps outcomes) last clients
  replayed_lists = record {
    as_many = refl;
    each_put = of_events (λ es. (place : ℕ) (lists : ClientLists Q A) → slice_get clients place ≡ Some lists → lists.put ≡ packets_by (place + 1) (accepted_in es)) put_is;
    each_taken = of_events (λ es. (place : ℕ) (lists : ClientLists Q A) → slice_get clients place ≡ Some lists → lists.taken ≡ packets_by (place + 1) (taken_in es)) taken_is;
    each_untaken = λ place lists c at found.
        let number : 1 + length lists.taken ≡ length lists.taken + 1 = omega arith
        in subst (λ (k : ClientState A). lists.untaken ≡ numbered (k.taken + 1) k.untaken) (same_Some (last_client lists) c (sym (last_at place lists at) ∙ found))
        (numbers_behind 1 lists.taken lists.untaken (answers_to (place + 1) served) (lawful.each_reply place lists at)
        ∙ ap (λ n. numbered n (map (λ (r : Reply A). r.answer) lists.untaken)) number);
  }

  pub has_history : HasHistory gives has_died opening clients served unanswered closing
  unfolding replay
  has_history = record {
    steps = steps;
    outcomes = outcomes;
    last = last;
    history = replay;
    lists = replayed_lists;
    all_served = refl;
    all_waiting = refl;
    last_server = refl;
  }

module _ {S Q M A : Type 0} (gives : S → Q → M → S → A → Type 0) (has_died : S → Bool) where
  -- lists from a history are lawful
  history_lawful : (opening : S) (clients : List (ClientLists Q A)) (served : List (Serving Q M A)) (unanswered : List (ℕ × Q)) (closing : S)
      → HasHistory gives has_died opening clients served unanswered closing → Lawful gives opening clients served unanswered closing
  history_lawful opening clients served unanswered closing h =
      subst (λ (z : List (Serving Q M A) × (List (ℕ × Q) × S)). Lawful gives opening clients z.0 z.1.0 z.1.1) (λ i. (h.all_served i, (h.all_waiting i, h.last_server i)))
      (history-lawful gives has_died opening (length clients) h.steps h.outcomes h.last h.history clients h.lists)

  pub lists_have_a_history : ListsHaveAHistory gives has_died
  lists_have_a_history opening clients served unanswered closing living =
      (λ lawful. has_history gives has_died opening clients served unanswered closing living lawful, λ h. history_lawful opening clients served unanswered closing h)
