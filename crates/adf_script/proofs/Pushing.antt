-- One more reply or packet.
use Rattle.adf_script.proofs.Common.{◌≡◌, ℕ, ◌+◌, inl, inr, List, [], ◌∷◌, ◌++◌, length, take, sym, ap, subst, ◌∙◌, arith, append_assoc, length-append, append-nil, take-append-le, take_all, slice_get_within, Packet, Answer, numbered, slice_get-push_at, answer_values, reply_line, reply_lines, ArePackets, NextPuts}

pub numbered-push : {A : Type 0} (number : ℕ) (xs : List A) (y : A) → numbered number (xs ++ y ∷ []) ≡ numbered number xs ++ (record { number = number + length xs; answer = y }) ∷ []
numbered-push number [] y = λ i. record { number = same i; answer = y } ∷ []
  where
    same : number ≡ number + 0
    same = omega arith
numbered-push number (x ∷ xs) y =
    let same : number + 1 + length xs ≡ number + length (x ∷ xs) = omega arith
    in ap (λ l. record { number = number; answer = x } ∷ l) (numbered-push (number + 1) xs y ∙ ap (λ n. numbered (number + 1) xs ++ (record { number = n; answer = y }) ∷ []) same)

pub reply_lines-push : (client number : ℕ) (xs : List Answer) (y : Answer) → reply_lines client number (xs ++ y ∷ []) ≡ reply_lines client number xs ++ reply_line client (number + length xs) y
reply_lines-push client number [] y =
    let same : number ≡ number + 0 = omega arith
    in append-nil (reply_line client number y) ∙ ap (λ n. reply_line client n y) same
reply_lines-push client number (x ∷ xs) y =
    let same : number + 1 + length xs ≡ number + length (x ∷ xs) = omega arith
    in ap (λ l. reply_line client number x ++ l) (reply_lines-push client (number + 1) xs y ∙ ap (λ n. reply_lines client (number + 1) xs ++ reply_line client n y) same)
    ∙ sym (append_assoc (reply_line client number x) (reply_lines client (number + 1) xs) (reply_line client (number + length (x ∷ xs)) y))

-- one more packet
pub packets-push : (lines : List (ℕ × List ℕ)) (answers : List Answer) (packets : List Packet) (packet : Packet) → length packets ≡ length answers
    → ArePackets lines answers packets → NextPuts lines (answer_values answers) (length packets) packet → ArePackets lines answers (packets ++ packet ∷ [])
packets-push lines answers packets packet as_many each puts i p at_i = elim (slice_get-push_at packets packet i p at_i) [
  | inl w ↦ each i p w.1
  | inr w ↦
      let all : take i answers ≡ answers = take_all i answers (omega (arith, w.0, as_many))
      in subst (λ l. NextPuts lines (answer_values l) i p) (sym all)
      (subst (λ n. NextPuts lines (answer_values answers) n p) (sym w.0) (subst (NextPuts lines (answer_values answers) (length packets)) (sym w.1) puts))
]

-- one more answer
pub packets-answered : (lines : List (ℕ × List ℕ)) (answers : List Answer) (packets : List Packet) (packet : Packet) (answer : Answer) → length packets ≡ length answers
    → ArePackets lines answers packets → NextPuts lines (answer_values answers) (length packets) packet → ArePackets lines (answers ++ answer ∷ []) (packets ++ packet ∷ [])
packets-answered lines answers packets packet answer as_many each puts i p at_i =
    let within = slice_get_within (packets ++ packet ∷ []) i p at_i
    in subst (λ l. NextPuts lines (answer_values l) i p) (sym (take-append-le i answers (answer ∷ []) (omega (arith, within, length-append packets (packet ∷ []), as_many))))
    (packets-push lines answers packets packet as_many each puts i p at_i)
