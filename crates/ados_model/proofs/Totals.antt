-- Sums over the numbers below a bound, and how often a number occurs in a list.
use Rattle.ados_model.proofs.Common.{◌≡◌, ◌≢◌, ℕ, zero, suc, ◌+◌, ◌<◌, ◌⊎◌, inl, inr, cond, ◌==◌, List, [], ◌∷◌, length, slice_index, refl, sym, ap, ◌∙◌, arith, eq-eqb, ne_eqb, cases_eq, total}

pub total-add : (f g : ℕ → ℕ) (n : ℕ) → total (λ k. f k + g k) n ≡ total f n + total g n
total-add f g zero = refl
total-add f g (suc n) = omega (arith, total-add f g n)

pub total-zero : (f : ℕ → ℕ) (n : ℕ) → ((k : ℕ) → k < n → f k ≡ 0) → total f n ≡ 0
total-zero f zero h = refl
total-zero f (suc n) h = omega (arith, total-zero f n (λ k l. h k (omega arith)), h n (omega arith))

pub total-ones : (f : ℕ → ℕ) (n : ℕ) → ((k : ℕ) → k < n → f k ≡ 1) → total f n ≡ n
total-ones f zero h = refl
total-ones f (suc n) h = omega (arith, total-ones f n (λ k l. h k (omega arith)), h n (omega arith))

pub total-one : (f : ℕ → ℕ) (n k : ℕ) → k < n → f k ≡ 1 → ((j : ℕ) → j ≢ k → f j ≡ 0) → total f n ≡ 1
total-one f zero k l e h = absurd (omega arith)
total-one f (suc n) k l e h = go (total-one f n k) (cases_eq n k)
  where
    go : (k < n → f k ≡ 1 → ((j : ℕ) → j ≢ k → f j ≡ 0) → total f n ≡ 1) → (n ≡ k) ⊎ (n ≡ k → ⊥) → total f (suc n) ≡ 1
    go before (inl same) =
        let none = total-zero f n (λ j m. h j (omega (arith, same, m))) in
        omega (arith, none, ap f same, e)
    go before (inr other) = omega (arith, before (omega (arith, other)) e h, h n other)

pub total-swap : (g : ℕ → ℕ → ℕ) (n m : ℕ) → total (λ b. total (g b) m) n ≡ total (λ k. total (λ b. g b k) n) m
total-swap g zero m = sym (total-zero (λ k. 0) m (λ k l. refl))
total-swap g (suc n) m = ap (λ (x : ℕ). x + total (g n) m) (total-swap g n m) ∙ sym (total-add (λ k. total (λ b. g b k) n) (g n) m)

-- the first two numbers split off
pub total-from_two : (f : ℕ → ℕ) (m : ℕ) → total f (suc (suc m)) ≡ f 0 + f 1 + total (λ k. f (k + 2)) m
total-from_two f zero = omega arith
total-from_two f (suc m) =
    let same : suc (suc m) ≡ m + 2 = omega arith in
    omega (arith, total-from_two f m, ap f same)

-- how often b occurs in a list
abbrev pub occurrences : ℕ → List ℕ → ℕ
occurrences b [] = 0
occurrences b (x ∷ xs) = cond (x == b) 1 0 + occurrences b xs

pub occurrences-none : (b : ℕ) (xs : List ℕ) → ((i : ℕ) → i < length xs → slice_index xs i ≢ b) → occurrences b xs ≡ 0
occurrences-none b [] h = refl
occurrences-none b (x ∷ xs) h = rw (ne_eqb x b (h 0 (omega arith))) (omega (arith, occurrences-none b xs (λ i l. h (suc i) (omega arith))))

pub occurrences-one : (b : ℕ) (xs : List ℕ) (i : ℕ) → i < length xs → slice_index xs i ≡ b → ((j : ℕ) → j < length xs → slice_index xs j ≡ b → j ≡ i) → occurrences b xs ≡ 1
occurrences-one b [] i l e h = absurd (omega arith)
occurrences-one b (x ∷ xs) zero l e h =
    let none = occurrences-none b xs (λ j m is. let z : suc j ≡ 0 = h (suc j) (omega arith) is in omega (arith, z)) in
    rw (eq-eqb x b e) (omega (arith, none))
occurrences-one b (x ∷ xs) (suc i) l e h =
    let not_here : x ≢ b = λ is. let z : 0 ≡ suc i = h 0 (omega arith) is in omega (arith, z) in
    let rest = occurrences-one b xs i (omega arith) e (λ j m is. let z : suc j ≡ suc i = h (suc j) (omega arith) is in omega (arith, z)) in
    rw (ne_eqb x b not_here) (omega (arith, rest))

-- the length of a list, as a sum over its elements
pub total-occurrences : (n : ℕ) (xs : List ℕ) → ((i : ℕ) → i < length xs → slice_index xs i < n) → total (λ b. occurrences b xs) n ≡ length xs
total-occurrences n [] h = total-zero (λ b. 0) n (λ k l. refl)
total-occurrences n (x ∷ xs) h =
    let here = total-one (λ b. cond (x == b) 1 0) n x (h 0 (omega arith)) (rw (eq-eqb x x refl) refl) (λ j m. rw (ne_eqb x j (λ e. m (sym e))) refl) in
    total-add (λ b. cond (x == b) 1 0) (λ b. occurrences b xs) n ∙ omega (arith, here, total-occurrences n xs (λ i l. h (suc i) (omega arith)))
