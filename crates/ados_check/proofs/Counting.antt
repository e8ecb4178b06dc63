-- The length of a list of distinct numbers below a bound.
use Rattle.ados_check.proofs.Common.{◌≡◌, ℕ, zero, suc, ◌<◌, ◌≤◌, ◌⊎◌, inl, inr, List, [], ◌∷◌, length, slice_index, sym, ◌∙◌, arith, ne_eqb, cases_eq, total}
use Rattle.ados_model.proofs.Totals.{occurrences, occurrences-one, total-occurrences}

-- a list of distinct numbers
abbrev pub AreDifferent : List ℕ → Type 0
AreDifferent xs = (i j : ℕ) → i < length xs → j < length xs → slice_index xs i ≡ slice_index xs j → i ≡ j

different-tail : (x : ℕ) (xs : List ℕ) → AreDifferent (x ∷ xs) → AreDifferent xs
different-tail x xs h i j l m e = let same : suc i ≡ suc j = h (suc i) (suc j) (omega arith) (omega arith) e in omega arith

occurrences-few : (b : ℕ) (xs : List ℕ) → AreDifferent xs → occurrences b xs ≤ 1
occurrences-few b [] h = omega arith
occurrences-few b (x ∷ xs) h = go (cases_eq x b) (occurrences-few b xs (different-tail x xs h))
  where
    go : (x ≡ b) ⊎ (x ≡ b → ⊥) → occurrences b xs ≤ 1 → occurrences b (x ∷ xs) ≤ 1
    go (inl here) few =
        let one : occurrences b (x ∷ xs) ≡ 1 = occurrences-one b (x ∷ xs) 0 (omega arith) here (λ j l e. h j 0 l (omega arith) (e ∙ sym here)) in
        omega (arith, one)
    go (inr other) few = rw (ne_eqb x b other) (omega (arith, few))

total-few : (f : ℕ → ℕ) (n : ℕ) → ((b : ℕ) → f b ≤ 1) → total f n ≤ n
total-few f zero h = omega arith
total-few f (suc n) h = omega (arith, total-few f n h, h n)

-- there are at most n distinct numbers below n
pub different_few : (n : ℕ) (xs : List ℕ) → ((i : ℕ) → i < length xs → slice_index xs i < n) → AreDifferent xs → length xs ≤ n
different_few n xs below different =
    let all = total-occurrences n xs below in
    let few = total-few (λ b. occurrences b xs) n (λ b. occurrences-few b xs different) in
    omega (arith, all, few)
