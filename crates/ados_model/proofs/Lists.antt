-- Lists by the slots of their elements, and linked lists.
use Rattle.ados_model.proofs.Common.{◌≡◌, ◌≢◌, ℕ, zero, suc, ◌<◌, ◌≤◌, ◌⊎◌, inl, inr, true, false, nat_lt, ◌==◌, List, [], ◌∷◌, ◌++◌, length, filter, slice_index_or, AllPairs, refl, sym, ap, ap₂, ◌∙◌, arith, lt-ltb, le-ltb, eq-eqb, ne_eqb, AllByRecursion, cases_order, Chained, long}

-- the first of a list whose pairs are related is related to each later one
pub AllPairs-head : (R : ℕ → ℕ → Type 0) (x : ℕ) (xs : List ℕ) → AllPairs R (x ∷ xs) → AllByRecursion (R x) xs
AllPairs-head R x [] h = tt
AllPairs-head R x (y ∷ ys) h =
    (h 0 1 0 (omega arith) (omega arith), AllPairs-head R x ys (λ i j d l m. without i j d l m))
  where
    without : (i j d : ℕ) → i < j → j < length (x ∷ ys) → R (slice_index_or (x ∷ ys) i d) (slice_index_or (x ∷ ys) j d)
    without zero zero d l m = absurd (omega arith)
    without zero (suc j) d l m = h 0 (suc (suc j)) d (omega arith) (omega arith)
    without (suc i) zero d l m = absurd (omega arith)
    without (suc i) (suc j) d l m = h (suc (suc i)) (suc (suc j)) d (omega arith) (omega arith)

pub AllPairs-tail : (R : ℕ → ℕ → Type 0) (x : ℕ) (xs : List ℕ) → AllPairs R (x ∷ xs) → AllPairs R xs
AllPairs-tail R x xs h i j d l m = h (suc i) (suc j) d (omega arith) (omega arith)

module _ (f : ℕ → ℕ) where
  -- no element is below n if all are at least n
  none_below : (n : ℕ) (xs : List ℕ) → AllByRecursion (λ y. n ≤ f y) xs → filter (λ x. nat_lt (f x) n) xs ≡ []
  none_below n [] h = refl
  none_below n (x ∷ xs) h = rw (le-ltb (f x) n h.0) (none_below n xs h.1)

  weaker : (n x : ℕ) (xs : List ℕ) → f x ≡ n → AllByRecursion (λ y. f x ≤ f y) xs → AllByRecursion (λ y. n ≤ f y) xs
  weaker n x [] e h = tt
  weaker n x (y ∷ ys) e h = (omega (arith, h.0, e), weaker n x ys e h.1)

  -- the elements below n + 1: first those below n, then those equal to n
  below_more : (n : ℕ) (xs : List ℕ) → AllPairs (λ j k. f j ≤ f k) xs → filter (λ x. nat_lt (f x) (suc n)) xs ≡ filter (λ x. nat_lt (f x) n) xs ++ filter (λ x. f x == n) xs
  below_more n [] h = refl
  below_more n (x ∷ xs) h = by_order (below_more n xs (AllPairs-tail (λ j k. f j ≤ f k) x xs h)) (cases_order (f x) n)
    where
      by_order : filter (λ x. nat_lt (f x) (suc n)) xs ≡ filter (λ x. nat_lt (f x) n) xs ++ filter (λ x. f x == n) xs → (f x ≡ n) ⊎ ((f x < n) ⊎ (n < f x)) → filter (λ x. nat_lt (f x) (suc n)) (x ∷ xs) ≡ filter (λ x. nat_lt (f x) n) (x ∷ xs) ++ filter (λ x. f x == n) (x ∷ xs)
      by_order rest (inl e) =
          let none = none_below n xs (weaker n x xs e (AllPairs-head (λ j k. f j ≤ f k) x xs h)) in
          let low : nat_lt (f x) (suc n) ≡ true = lt-ltb (f x) (suc n) (omega (arith, e)) in
          let high : nat_lt (f x) n ≡ false = le-ltb (f x) n (omega (arith, e)) in
          let here : (f x == n) ≡ true = eq-eqb (f x) n e in
          rw (low, high, here, none) (ap (λ (ys : List ℕ). x ∷ ys) (rest ∙ ap (λ (ys : List ℕ). ys ++ filter (λ x. f x == n) xs) none))
      by_order rest (inr (inl l)) =
          let low : nat_lt (f x) (suc n) ≡ true = lt-ltb (f x) (suc n) (omega arith) in
          let high : nat_lt (f x) n ≡ true = lt-ltb (f x) n l in
          let here : (f x == n) ≡ false = ne_eqb (f x) n (omega arith) in
          rw (low, high, here) (ap (λ (ys : List ℕ). x ∷ ys) rest)
      by_order rest (inr (inr g)) =
          let low : nat_lt (f x) (suc n) ≡ false = le-ltb (f x) (suc n) (omega arith) in
          let high : nat_lt (f x) n ≡ false = le-ltb (f x) n (omega arith) in
          let here : (f x == n) ≡ false = ne_eqb (f x) n (omega arith) in
          rw (low, high, here) rest

  all_below : (n : ℕ) (xs : List ℕ) → ((x : ℕ) → f x < n) → filter (λ x. nat_lt (f x) n) xs ≡ xs
  all_below n [] h = refl
  all_below n (x ∷ xs) h = rw (lt-ltb (f x) n (h x)) (ap (λ (ys : List ℕ). x ∷ ys) (all_below n xs h))

  none_below_zero : (xs : List ℕ) → filter (λ x. nat_lt (f x) 0) xs ≡ []
  none_below_zero [] = refl
  none_below_zero (x ∷ xs) = rw (le-ltb (f x) 0 (omega arith)) (none_below_zero xs)

-- the first n lists, concatenated
unfoldable pub joined : (ℕ → List ℕ) → ℕ → List ℕ
joined g zero = []
joined g (suc n) = joined g n ++ g n

pub joined-same : (g h : ℕ → List ℕ) (n : ℕ) → ((s : ℕ) → s < n → g s ≡ h s) → joined g n ≡ joined h n
unfolding joined
joined-same g h zero same = refl
joined-same g h (suc n) same = ap₂ (λ (xs ys : List ℕ). xs ++ ys) (joined-same g h n (λ s l. same s (omega arith))) (same n (omega arith))

filter-joined : (f : ℕ → ℕ) (xs : List ℕ) → AllPairs (λ j k. f j ≤ f k) xs → (n : ℕ) → filter (λ x. nat_lt (f x) n) xs ≡ joined (λ s. filter (λ x. f x == s) xs) n
unfolding joined
filter-joined f xs h zero = none_below_zero f xs
filter-joined f xs h (suc n) = below_more f n xs h ∙ ap (λ (ys : List ℕ). ys ++ filter (λ x. f x == n) xs) (filter-joined f xs h n)

-- a list with rising slots is the concatenation of its slots
pub by_slot : (f : ℕ → ℕ) (n : ℕ) (xs : List ℕ) → AllPairs (λ j k. f j ≤ f k) xs → ((x : ℕ) → f x < n) → xs ≡ joined (λ s. filter (λ x. f x == s) xs) n
by_slot f n xs h below = sym (all_below f n xs below) ∙ filter-joined f xs h n

-- a first block has one linked list
pub Chained-one : (image : List ℕ) (link first : ℕ) (xs ys : List ℕ) → Chained image link first xs → Chained image link first ys → AllByRecursion (λ x. x ≢ 0) xs → AllByRecursion (λ y. y ≢ 0) ys → xs ≡ ys
Chained-one image link first [] [] c d n m = refl
Chained-one image link first [] (y ∷ ys) c d n m = absurd (m.0 (sym d.0 ∙ c))
Chained-one image link first (x ∷ xs) [] c d n m = absurd (n.0 (sym c.0 ∙ d))
Chained-one image link first (x ∷ xs) (y ∷ ys) c d n m =
    let e : x ≡ y = sym c.0 ∙ d.0 in
    let d' = rw (← e) at d.1 in
    ap₂ (λ (z : ℕ) (zs : List ℕ). z ∷ zs) e (Chained-one image link (long image x link) xs ys c.1 d' n.1 m.1)
