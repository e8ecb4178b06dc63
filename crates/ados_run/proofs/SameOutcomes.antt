-- At an opened port whose replies were all taken, the outcomes have all answers.
use Rattle.std.proofs.Common.{◌≡◌, ◌≢◌, ℕ, zero, suc, ◌+◌, ◌<◌, ◌≤◌, List, [], ◌∷◌, ◌++◌, length, option_map, take, drop, slice_get, Option, Some, None, refl, inl, inr, sym, ap, ap₂, ◌∙◌, arith}
use Rattle.std.proofs.lemmas.Bool.{cases_eq}
use Rattle.std.proofs.lemmas.List.{append-nil, length-map}
use Rattle.std.proofs.lemmas.Option.{none-some, same_Some}
use Rattle.ados_handler.specs.HandlerState.{HandlerState}
use Rattle.ados_port.specs.History.{ClientState, accepted_in, client_state, packets_by, queue, taken_in}
use Rattle.ados_port.specs.Lawful.{answers_to, packets_of}
use Rattle.ados_port.specs.Lists.{ListsOf}
use Rattle.ados_run.proofs.Common.{Answer, ClientLists, Date3, HandlerGives, Lawful, Packet, PortHistory, Reply, Serving, events_of, numbered, opening_port}
use Rattle.ados_run.specs.Replays.{SameOutcomesSameBytes, answers_of}
use Rattle.ados_run.specs.Runs.{HandlerPort, PacketOutcomes, PacketSteps}
use Rattle.ados_run.specs.TreeLists.{ServedPackets, handler_died}
use Rattle.ados_run.proofs.SameRuns.{same_steps_same_bytes}
use Rattle.ados_port.proofs.Lawful.{history-lawful}
use Rattle.ados_port.proofs.Serving.{answers_to-append, packets_by-other, packets_by-own}

-- ---- lists with an element for each client

-- the values of a function from a number on
abbrev each_of : {X : Type 0} → (ℕ → X) → ℕ → ℕ → List X
each_of f from zero = []
each_of f from (suc n) = f from ∷ each_of f (suc from) n

each_of-length : {X : Type 0} (f : ℕ → X) (from n : ℕ) → length (each_of f from n) ≡ n
each_of-length f from zero = refl
each_of-length f from (suc n) = ap suc (each_of-length f (suc from) n)

each_of-is : {X : Type 0} (f : ℕ → X) (from n i : ℕ) (x : X) → slice_get (each_of f from n) i ≡ Some x → x ≡ f (from + i)
each_of-is f from zero i x e = absurd (none-some x e)
each_of-is f from (suc n) zero x e = sym (same_Some (f from) x e) ∙ ap f (omega arith)
each_of-is f from (suc n) (suc i) x e = each_of-is f (suc from) n i x e ∙ ap f (omega arith)

each_of-at : {X : Type 0} (f : ℕ → X) (from n i : ℕ) → i < n → slice_get (each_of f from n) i ≡ Some (f (from + i))
each_of-at f from zero i l = absurd (omega (arith, l))
each_of-at f from (suc n) zero l = ap (λ (k : ℕ). Some (f k)) (omega arith)
each_of-at f from (suc n) (suc i) l = each_of-at f (suc from) n i (omega (arith, l)) ∙ ap (λ (k : ℕ). Some (f k)) (omega arith)

-- ---- the answers to each client, and all answers

-- the answers of the first list for a client begin those of the second
abbrev Begins : ℕ → ServedPackets → ServedPackets → Type 0
Begins client xs ys = (more : List Answer) × (answers_to client xs ++ more ≡ answers_to client ys)

-- each packet is from one of these clients
abbrev AreFrom : ℕ → ServedPackets → Type 0
AreFrom clients [] = Unit {0}
AreFrom clients (s ∷ served) = (1 ≤ s.client) × (s.client ≤ clients) × AreFrom clients served

own_first : (client : ℕ) (s : Serving Packet Date3 Answer) (served : ServedPackets) → client ≡ s.client → answers_to client (s ∷ served) ≡ s.answer ∷ answers_to client served
own_first client s served e = answers_to-append client (s ∷ []) served ∙ ap (λ (xs : List Answer). xs ++ answers_to client served) (packets_by-own s.client client s.answer e)

other_first : (client : ℕ) (s : Serving Packet Date3 Answer) (served : ServedPackets) → client ≢ s.client → answers_to client (s ∷ served) ≡ answers_to client served
other_first client s served n = answers_to-append client (s ∷ []) served ∙ ap (λ (xs : List Answer). xs ++ answers_to client served) (packets_by-other s.client client s.answer n)

same_answers : (clients : ℕ) (xs ys : ServedPackets) → packets_of xs ≡ packets_of ys → AreFrom clients xs → ((client : ℕ) → 1 ≤ client → client ≤ clients → Begins client xs ys) → answers_of xs ≡ answers_of ys
same_answers clients [] [] e from begins = refl
same_answers clients [] (y ∷ ys) e from begins = absurd (cc e)
same_answers clients (x ∷ xs) [] e from begins = absurd (cc e)
same_answers clients (x ∷ xs) (y ∷ ys) e from begins =
    let both : (x.client, x.packet) ≡ (y.client, y.packet) = cc e in
    let same : x.client ≡ y.client = ap (λ (p : ℕ × Packet). p.0) both in
    let own = begins x.client from.0 from.1 in
    let firsts : x.answer ∷ (answers_to x.client xs ++ own.0) ≡ y.answer ∷ answers_to x.client ys =
    sym (ap (λ (zs : List Answer). zs ++ own.0) (own_first x.client x xs refl)) ∙ own.1 ∙ own_first x.client y ys same in
    let rest : (client : ℕ) → 1 ≤ client → client ≤ clients → Begins client xs ys = λ client l m. elim (cases_eq client x.client) [
      | inl here ↦ (own.0, ap (λ (c : ℕ). answers_to c xs ++ own.0) here ∙ ap (drop 1) firsts ∙ ap (λ (c : ℕ). answers_to c ys) (sym here))
      | inr n ↦
          let more = begins client l m in
          (more.0, sym (ap (λ (zs : List Answer). zs ++ more.0) (other_first client x xs n)) ∙ more.1 ∙ other_first client y ys (λ is. n (is ∙ sym same)))
    ] in
    let answers : x.answer ≡ y.answer = cc firsts in
    ap₂ (λ (a : Answer) (others : List Answer). a ∷ others) answers (same_answers clients xs ys (cc e) from.2 rest)

-- numbered answers that begin others are the first ones of them
numbered-begins : (number : ℕ) (xs ys : List Answer) (rest : List (Reply Answer)) → numbered number xs ++ rest ≡ numbered number ys → (more : List Answer) × (xs ++ more ≡ ys)
numbered-begins number [] ys rest e = (ys, refl)
numbered-begins number (x ∷ xs) [] rest e = absurd (cc e)
numbered-begins number (x ∷ xs) (y ∷ ys) rest e =
    let same : x ≡ y = same_Some x y (ap (λ (replies : List (Reply Answer)). option_map (λ (r : Reply Answer). r.answer) (slice_get replies 0)) e) in
    let more = numbered-begins (number + 1) xs ys rest (ap (drop 1) e) in
    (more.0, ap₂ (λ (a : Answer) (others : List Answer). a ∷ others) same more.1)

-- ---- the lists of an opened port

module _ (server : HandlerState) (clients : ℕ) (steps : PacketSteps) (outcomes : PacketOutcomes) (closing : HandlerPort) (h : PortHistory HandlerGives handler_died (opening_port server clients) steps outcomes closing) where
  -- the replies that a client has not taken
  abbrev left : Option (ClientState Answer) → List (Reply Answer)
  left None = []
  left (Some c) = numbered (c.taken + 1) c.untaken

  left_none : (o : Option (ClientState Answer)) → ((c : ClientState Answer) → o ≡ Some c → c.untaken ≡ []) → left o ≡ []
  left_none None none = refl
  left_none (Some c) none = ap (numbered (c.taken + 1)) (none c refl)

  -- the lists of a client by its position
  abbrev lists_at : ℕ → ClientLists Packet Answer
  lists_at place = record {
    put = packets_by (place + 1) (accepted_in (events_of steps outcomes));
    taken = packets_by (place + 1) (taken_in (events_of steps outcomes));
    untaken = left (client_state closing.clients (place + 1));
  }

  abbrev each_lists : List (ClientLists Packet Answer)
  each_lists = each_of lists_at 0 clients

  is_at : (place : ℕ) (lists : ClientLists Packet Answer) → slice_get each_lists place ≡ Some lists → lists ≡ lists_at place
  is_at place lists e = each_of-is lists_at 0 clients place lists e ∙ ap lists_at (omega arith)

  lists_of : ListsOf clients (events_of steps outcomes) closing each_lists
  lists_of = record {
    as_many = each_of-length lists_at 0 clients;
    each_put = λ place lists e. ap (λ (l : ClientLists Packet Answer). l.put) (is_at place lists e);
    each_taken = λ place lists e. ap (λ (l : ClientLists Packet Answer). l.taken) (is_at place lists e);
    each_untaken = λ place lists c e found. ap (λ (l : ClientLists Packet Answer). l.untaken) (is_at place lists e) ∙ ap left found;
  }

  lawful : Lawful HandlerGives server each_lists h.served closing.waiting closing.server
  lawful = history-lawful HandlerGives handler_died server clients steps outcomes closing h each_lists lists_of

  -- a client's replies, those taken and those left, are its answers
  replies_are : (place : ℕ) → place < clients → packets_by (place + 1) (taken_in (events_of steps outcomes)) ++ left (client_state closing.clients (place + 1)) ≡ numbered 1 (answers_to (place + 1) h.served)
  replies_are place l = lawful.each_reply place (lists_at place) (each_of-at lists_at 0 clients place l ∙ ap (λ (k : ℕ). Some (lists_at k)) (omega arith))

  are_from : AreFrom clients h.served
  are_from = go h.served (λ place packet e. let known = lawful.known place packet e in (known.0, omega (arith, known.1, each_of-length lists_at 0 clients)))
    where
      go : (served : ServedPackets) → ((place : ℕ) (packet : ℕ × Packet) → slice_get (packets_of served ++ closing.waiting) place ≡ Some packet → (1 ≤ packet.0) × (packet.0 ≤ clients)) → AreFrom clients served
      go [] known = tt
      go (s ∷ served) known =
          let first = known 0 (s.client, s.packet) refl in
          (first.0, first.1, go served (λ place packet e. known (suc place) packet e))

pub same_outcomes_same_bytes : SameOutcomesSameBytes
same_outcomes_same_bytes opening again clients closing other steps outcomes same bytes h k taken =
    same_steps_same_bytes (opening_port opening clients) (opening_port again clients) closing other steps outcomes same bytes refl h k (sym answers)
  where
    lengths : length h.served ≡ length k.served
    lengths =
        omega (arith, ap length k.moments, ap length h.moments, length-map k.served (λ (s : Serving Packet Date3 Answer). s.moment), length-map h.served (λ (s : Serving Packet Date3 Answer). s.moment))

    packets : packets_of h.served ≡ packets_of k.served
    packets =
        h.in_order ∙ ap (λ (n : ℕ). take n (queue (opening_port opening clients) (events_of steps outcomes))) lengths ∙ sym k.in_order

    begins : (client : ℕ) → 1 ≤ client → client ≤ clients → Begins client h.served k.served
    begins zero l m = absurd (omega (arith, l))
    begins (suc place) l m =
        let number : place + 1 ≡ suc place = omega arith in
        let none = left_none opening clients steps outcomes closing h (client_state closing.clients (place + 1)) (λ c found. taken (place + 1) c found) in
        let first = replies_are opening clients steps outcomes closing h place (omega (arith, m)) in
        let second = replies_are again clients steps outcomes other k place (omega (arith, m)) in
        let all : packets_by (place + 1) (taken_in (events_of steps outcomes)) ≡ numbered 1 (answers_to (place + 1) h.served) =
        sym (append-nil (packets_by (place + 1) (taken_in (events_of steps outcomes)))) ∙ sym (ap (λ (r : List (Reply Answer)). packets_by (place + 1) (taken_in (events_of steps outcomes)) ++ r) none) ∙ first in
        let rest = left again clients steps outcomes other k (client_state other.clients (place + 1)) in
        let more = numbered-begins 1 (answers_to (place + 1) h.served) (answers_to (place + 1) k.served) rest (sym (ap (λ (r : List (Reply Answer)). r ++ rest) all) ∙ second) in
        (more.0, ap (λ (n : ℕ). answers_to n h.served ++ more.0) (sym number) ∙ more.1 ∙ ap (λ (n : ℕ). answers_to n k.served) number)

    answers : answers_of h.served ≡ answers_of k.served
    answers = same_answers clients h.served k.served packets (are_from opening clients steps outcomes closing h) begins
