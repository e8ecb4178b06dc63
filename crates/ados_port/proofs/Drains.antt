-- Replies are numbered in the order in which they are taken.
use Rattle.std.proofs.Common.{◌≡◌, ℕ, suc, ◌+◌, List, [], ◌∷◌, ◌++◌, length, sym, refl, ap, ◌∙◌, arith, append_assoc, length-append}
use Rattle.std.proofs.lemmas.List.{map-append}
use Rattle.ados_port.specs.declared.step.Reply.{Reply}
use Rattle.ados_port.specs.Lawful.{numbered}
use Rattle.ados_port.specs.Gathering.{answers}
use Rattle.ados_port.proofs.Replies.{numbered-append}

pub count_more : {X : Type 0} (past past' : List X) (e : X) (n : ℕ) → past' ≡ past ++ e ∷ [] → n ≡ length past → n + 1 ≡ length past'
count_more past past' e n is count = ap (λ (k : ℕ). k + 1) count ∙ (sym (length-append past (e ∷ [])) ∙ ap (λ l. length l) (sym is))

module _ {M A : Type 0} where
  length-answers : (xs : List (M × A)) → length (answers xs) ≡ length xs
  length-answers [] = refl
  length-answers (x ∷ xs) = ap suc (length-answers xs)

  pub numbered_answers : (n : ℕ) (xs ys : List (M × A)) → numbered n (answers (xs ++ ys)) ≡ numbered n (answers xs) ++ numbered (n + length xs) (answers ys)
  numbered_answers n xs ys =
      ap (λ l. numbered n l) (map-append (λ (r : M × A). r.1) xs ys)
      ∙ (numbered-append n (answers xs) (answers ys) ∙ ap (λ (k : ℕ). numbered n (answers xs) ++ numbered (n + k) (answers ys)) (length-answers xs))

  pub drain_more : (n c num : ℕ) (all rest rest' : List (M × A)) (items0 items items' : List (Reply A)) (xs : List (M × A)) (x : M × A)
      → all ≡ xs ++ rest → length xs ≡ c → items ≡ items0 ++ numbered (n + 1) (answers xs) → rest ≡ x ∷ rest' → num ≡ n + c → items' ≡ items ++ record { number = num + 1; answer = x.1 } ∷ []
      → (ys : List (M × A)) × (all ≡ ys ++ rest') × (length ys ≡ c + 1) × (items' ≡ items0 ++ numbered (n + 1) (answers ys))
  drain_more n c num all rest rest' items0 items items' xs x whole len is first number new =
      let place : num + 1 ≡ n + 1 + length xs = omega arith in (
        xs ++ x ∷ [],
        whole ∙ (ap (λ l. xs ++ l) first ∙ sym (append_assoc xs (x ∷ []) rest')),
        length-append xs (x ∷ []) ∙ ap (λ (k : ℕ). k + 1) len,
        new ∙ (ap (λ l. l ++ record { number = num + 1; answer = x.1 } ∷ []) is ∙ (append_assoc items0 (numbered (n + 1) (answers xs)) (record { number = num + 1; answer = x.1 } ∷ [])
            ∙ ap (λ l. items0 ++ l) (ap (λ (k : ℕ). numbered (n + 1) (answers xs) ++ record { number = k; answer = x.1 } ∷ []) place ∙ sym (numbered_answers (n + 1) xs (x ∷ []))))),
      )

  pub drained : (taken known sent waiting : List (M × A)) (n posted : ℕ) (items0 items items' : List (Reply A))
      → taken ++ known ≡ sent → posted ≡ length known → items0 ≡ [] → items ≡ items0 ++ numbered (n + 1) (answers known) → items' ≡ items ++ numbered (n + posted + 1) (answers waiting)
      → (rest : List (M × A)) × (sent ++ waiting ≡ taken ++ rest) × (items' ≡ numbered (n + 1) (answers rest))
  drained taken known sent waiting n posted items0 items items' fifo count none a b =
      let place : n + posted + 1 ≡ n + 1 + length known = omega arith in (
        known ++ waiting,
        ap (λ l. l ++ waiting) (sym fifo) ∙ append_assoc taken known waiting,
        b ∙ (ap (λ l. l ++ numbered (n + posted + 1) (answers waiting)) (a ∙ ap (λ l. l ++ numbered (n + 1) (answers known)) none)
            ∙ (ap (λ (k : ℕ). numbered (n + 1) (answers known) ++ numbered k (answers waiting)) place ∙ sym (numbered_answers (n + 1) known waiting))),
      )

  pub same_rest : (taken rest known sent : List (M × A)) → sent ≡ taken ++ rest → taken ++ known ≡ sent → length rest ≡ length known
  same_rest taken rest known sent a b =
      let l = length-append taken rest in let k = length-append taken known in let p = ap (λ z. length z) a in let q = ap (λ z. length z) b in omega arith

  pub length-numbered : (n : ℕ) (xs : List (M × A)) → length (numbered n (answers xs)) ≡ length xs
  length-numbered n [] = refl
  length-numbered n (x ∷ xs) = ap suc (length-numbered (n + 1) xs)
