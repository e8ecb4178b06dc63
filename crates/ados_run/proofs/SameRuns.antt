-- The answers of a run determine its handlers; steps, outcomes and answers those of a port's history.
use Rattle.std.proofs.Common.{◌≡◌, ℕ, List, [], ◌∷◌, ◌++◌, length, map, take, refl, sym, ap, ap₂, ◌∙◌, subst, arith}
use Rattle.std.proofs.lemmas.List.{length-map}
use Rattle.ados_handler.specs.HandlerState.{HandlerState}
use Rattle.ados_run.proofs.Common.{Answer, Date3, HandlerGives, Packet, Run, Serving, events_of, last_server}
use Rattle.ados_port.specs.History.{accepted_in, queue}
use Rattle.ados_run.specs.Replays.{AreSameHandlers, HasBytes, IsSameHandler, SameAnswersSameHandlers, SameStepsSameBytes, answers_of}
use Rattle.ados_run.specs.TreeLists.{ServedPackets}
use Rattle.ados_run.proofs.SameAnswers.{kept_rest, same_answer_same_handler}

pub same_answers_same_handlers : SameAnswersSameHandlers
same_answers_same_handlers opening again [] [] [] same bytes run replay = tt
same_answers_same_handlers opening again [] [] (other ∷ others) same bytes run replay = elim replay [ ]
same_answers_same_handlers opening again [] (new ∷ servers) others same bytes run replay = elim run [ ]
same_answers_same_handlers opening again (s ∷ served) [] others same bytes run replay = elim run [ ]
same_answers_same_handlers opening again (s ∷ served) (new ∷ servers) [] same bytes run replay = elim replay [ ]
same_answers_same_handlers opening again (s ∷ served) (new ∷ servers) (other ∷ others) same bytes run replay =
    let first : HandlerGives opening s.packet s.moment new s.answer = run.0 in
    let next : IsSameHandler new other = same_answer_same_handler opening again new other s.packet s.moment s.answer same bytes first replay.0 in
    let still : HasBytes new = (kept_rest opening new s.packet s.moment s.answer first).bytes bytes in
    (next, same_answers_same_handlers new other served servers others next still run.1 replay.1)

-- the last handlers are the same
last_same : (opening again : HandlerState) (servers others : List HandlerState) → IsSameHandler opening again → AreSameHandlers servers others → IsSameHandler (last_server opening servers) (last_server again others)
last_same opening again [] [] same each = same
last_same opening again [] (other ∷ others) same each = elim each [ ]
last_same opening again (new ∷ servers) [] same each = elim each [ ]
last_same opening again (new ∷ servers) (other ∷ others) same each = last_same new other servers others each.0 each.1

-- servings with the same packets, time stamps and answers are the same
same_served : (xs ys : ServedPackets) → map {B = ℕ × Packet} (λ s. (s.client, s.packet)) xs ≡ map {B = ℕ × Packet} (λ s. (s.client, s.packet)) ys → map (λ s. s.moment) xs ≡ map (λ s. s.moment) ys → answers_of xs ≡ answers_of ys → xs ≡ ys
same_served [] [] e f g = refl
same_served [] (y ∷ ys) e f g = absurd (cc f)
same_served (x ∷ xs) [] e f g = absurd (cc f)
same_served (x ∷ xs) (y ∷ ys) e f g =
    let both : (x.client, x.packet) ≡ (y.client, y.packet) = cc e in
    let clients : x.client ≡ y.client = ap (λ (p : ℕ × Packet). p.0) both in
    let packets : x.packet ≡ y.packet = ap (λ (p : ℕ × Packet). p.1) both in
    let moments : x.moment ≡ y.moment = cc f in
    let answers : x.answer ≡ y.answer = cc g in
    let here : x ≡ y = λ i. record { client = clients i; packet = packets i; moment = moments i; answer = answers i } in
    ap₂ (λ (z : Serving Packet Date3 Answer) (zs : ServedPackets). z ∷ zs) here (same_served xs ys (cc e) (cc f) (cc g))

pub same_steps_same_bytes : SameStepsSameBytes
same_steps_same_bytes opening again closing other steps outcomes same bytes waiting h k answers =
    let lengths : length k.served ≡ length h.served =
    omega (arith, ap length k.moments, ap length h.moments, length-map k.served (λ (s : Serving Packet Date3 Answer). s.moment), length-map h.served (λ (s : Serving Packet Date3 Answer). s.moment)) in
    let queues : queue again (events_of steps outcomes) ≡ queue opening (events_of steps outcomes) = ap (λ (w : List (ℕ × Packet)). w ++ accepted_in (events_of steps outcomes)) waiting in
    let served : k.served ≡ h.served =
    same_served k.served h.served
    (k.in_order ∙ ap (take (length k.served)) queues ∙ ap (λ (n : ℕ). take n (queue opening (events_of steps outcomes))) lengths ∙ sym h.in_order)
    (k.moments ∙ sym h.moments) answers in
    let each = same_answers_same_handlers opening.server again.server h.served h.servers k.servers same bytes h.meaning (subst (λ (xs : ServedPackets). Run HandlerGives again.server xs k.servers) served k.meaning) in
    subst (λ (z : HandlerState × HandlerState). IsSameHandler z.0 z.1) (λ i. (sym h.closing_server i, sym k.closing_server i)) (last_same opening.server again.server h.servers k.servers same each)
