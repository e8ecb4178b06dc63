-- Concatenated lists.
use Rattle.ados_check.proofs.Common.{◌≡◌, ◌≢◌, ℕ, zero, suc, ◌<◌, ◌≤◌, ◌⊎◌, inl, inr, ◌==◌, List, [], ◌∷◌, ◌++◌, length, filter, slice_index, AllPairs, Contains, refl, ap, ap₂, ◌∙◌, subst, arith, eq-eqb, ne_eqb, AllByRecursion, cases_lt, append-nil, get_or_default, recursion_from_All, All-append, All-weaker, All-contains_itself, Contains-get_or, Contains-append_left, Contains-append_right, Contains-append_cases, filter-append, joined}
use Rattle.std.proofs.lemmas.List.Kept.{AllPairs-cons}

-- a position of an element
pub place_of : (xs : List ℕ) (x : ℕ) → Contains xs x → (k : ℕ) × (k < length xs) × (slice_index xs k ≡ x)
place_of xs x h = (h.0, h.1, get_or_default xs h.0 0 _ h.1 ∙ h.2)

-- the pairs of two concatenated lists
AllPairs-append : (R : ℕ → ℕ → Type 0) (xs ys : List ℕ) → AllPairs R xs → AllPairs R ys → ((x y : ℕ) → Contains xs x → Contains ys y → R x y) → AllPairs R (xs ++ ys)
AllPairs-append R [] ys h g across = g
AllPairs-append R (x ∷ xs) ys h g across =
    AllPairs-cons R x (xs ++ ys)
    (All-append (R x) xs ys
    (λ k d l. h 0 (suc k) d (omega arith) (omega arith))
    (All-weaker (Contains ys) (R x) (λ y c. across x y (Contains-get_or (x ∷ xs) 0 0 (omega arith)) c) ys (All-contains_itself ys)))
    (AllPairs-append R xs ys (λ i j d l m. h (suc i) (suc j) d (omega arith) (omega arith)) g (λ a b c e. across a b (Contains-append_right (x ∷ []) xs a c) e))

filter_all : (f : ℕ → ℕ) (s : ℕ) (xs : List ℕ) → AllByRecursion (λ x. f x ≡ s) xs → filter (λ x. f x == s) xs ≡ xs
filter_all f s [] h = refl
filter_all f s (x ∷ xs) h = rw (eq-eqb (f x) s h.0) (ap (λ (ys : List ℕ). x ∷ ys) (filter_all f s xs h.1))

filter_none : (f : ℕ → ℕ) (s : ℕ) (xs : List ℕ) → AllByRecursion (λ x. f x ≢ s) xs → filter (λ x. f x == s) xs ≡ []
filter_none f s [] h = refl
filter_none f s (x ∷ xs) h = rw (ne_eqb (f x) s h.0) (filter_none f s xs h.1)

all_of : (P : ℕ → Type 0) (xs : List ℕ) → ((x : ℕ) → Contains xs x → P x) → AllByRecursion P xs
all_of P xs h = recursion_from_All P xs (All-weaker (Contains xs) P (λ x c. h x c) xs (All-contains_itself xs))

module _ (g : ℕ → List ℕ) where
  pub Contains-joined : (n s x : ℕ) → s < n → Contains (g s) x → Contains (joined g n) x
  unfolding joined
  Contains-joined zero s x l h = absurd (omega arith)
  Contains-joined (suc n) s x l h = go (Contains-joined n s x) (cases_lt s n)
    where
      go : (s < n → Contains (g s) x → Contains (joined g n) x) → (s < n) ⊎ (n ≤ s) → Contains (joined g (suc n)) x
      go before (inl m) = Contains-append_left (joined g n) (g n) x (before m h)
      go before (inr m) =
          let same : s ≡ n = omega arith in
          Contains-append_right (joined g n) (g n) x (subst (λ (r : ℕ). Contains (g r) x) same h)

  pub part_of_joined : (n x : ℕ) → Contains (joined g n) x → (s : ℕ) × (s < n) × Contains (g s) x
  unfolding joined
  part_of_joined zero x (k, l, e) = absurd (omega (arith, l))
  part_of_joined (suc n) x h =
      elim (Contains-append_cases (joined g n) (g n) x h) [
        | inl c ↦ let p = part_of_joined n x c in (p.0, omega (arith, p.1), p.2)
        | inr c ↦ (n, omega arith, c)
      ]

  pub AllPairs-joined : (R : ℕ → ℕ → Type 0) (n : ℕ) → ((s : ℕ) → s < n → AllPairs R (g s)) → ((r s x y : ℕ) → r < s → s < n → Contains (g r) x → Contains (g s) y → R x y) → AllPairs R (joined g n)
  unfolding joined
  AllPairs-joined R zero within across = λ i j d l m. absurd (omega (arith, m))
  AllPairs-joined R (suc n) within across =
      AllPairs-append R (joined g n) (g n)
      (AllPairs-joined R n (λ s l. within s (omega arith)) (λ r s x y l m. across r s x y l (omega arith)))
      (within n (omega arith))
      (λ x y c e. let p = part_of_joined n x c in across p.0 n x y p.1 (omega arith) p.2 e)

  -- part s of lists whose elements determine their part
  pub filter-joined : (f : ℕ → ℕ) (n : ℕ) → ((r x : ℕ) → r < n → Contains (g r) x → f x ≡ r) → (s : ℕ) → s < n → filter (λ x. f x == s) (joined g n) ≡ g s
  unfolding joined
  filter-joined f zero told s l = absurd (omega arith)
  filter-joined f (suc n) told s l = go (filter-joined f n (λ r x m. told r x (omega arith)) s) (cases_lt s n)
    where
      go : (s < n → filter (λ x. f x == s) (joined g n) ≡ g s) → (s < n) ⊎ (n ≤ s) → filter (λ x. f x == s) (joined g (suc n)) ≡ g s
      go before (inl m) =
          let none = filter_none f s (g n) (all_of (λ x. f x ≢ s) (g n) (λ x c z. let at = told n x (omega arith) c in omega (arith, at, z, m))) in
          filter-append (λ x. f x == s) (joined g n) (g n) ∙ ap₂ (λ (xs ys : List ℕ). xs ++ ys) (before m) none ∙ append-nil (g s)
      go before (inr m) =
          let same : n ≡ s = omega arith in
          let none = filter_none f s (joined g n) (all_of (λ x. f x ≢ s) (joined g n) (λ x c z. let p = part_of_joined n x c in let at = told p.0 x (omega (arith, p.1)) p.2 in omega (arith, at, z, m, p.1))) in
          let all = filter_all f s (g n) (all_of (λ x. f x ≡ s) (g n) (λ x c. told n x (omega arith) c ∙ same)) in
          filter-append (λ x. f x == s) (joined g n) (g n) ∙ ap₂ (λ (xs ys : List ℕ). xs ++ ys) none all ∙ ap g same
