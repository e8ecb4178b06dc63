-- A key inserted into a list, and one removed from it.
use Rattle.ados_change.proofs.Common.{◌≡◌, ◌≢◌, ℕ, suc, ◌<◌, ◌≤◌, ◌⊎◌, inl, inr, Bool, true, false, cond, nat_le, ◌==◌, not, List, [], ◌∷◌, ◌++◌, filter, AllPairs, Contains, refl, sym, ap, ap₂, ◌∙◌, subst, arith, eq-eqb, list_any, All-contains, filter_passes, ne_eqb, cases_eq, cases_lt, le-leb, lt-leb, Contains-get_or, AllPairs-cons, Contains-here, Contains-later, Contains-cases, Contains-nil, Once, Once-head, Once-tail, is_not, enter}
use Rattle.std.proofs.lemmas.List.Elements.{All-filter, All-contains_itself}
use Rattle.ados_model.proofs.Lists.{AllPairs-tail}

-- one more element in front, related to each of the others
pub AllPairs-more : (R : ℕ → ℕ → Type 0) (x : ℕ) (xs : List ℕ) → ((y : ℕ) → Contains xs y → R x y) → AllPairs R xs → AllPairs R (x ∷ xs)
AllPairs-more R x xs first rest = AllPairs-cons R x xs (λ k d l. first _ (Contains-get_or xs k d l)) rest

pub AllPairs-first : (R : ℕ → ℕ → Type 0) (x : ℕ) (xs : List ℕ) → AllPairs R (x ∷ xs) → (y : ℕ) → Contains xs y → R x y
AllPairs-first R x xs h y m = subst (R x) m.2 (h 0 (suc m.0) y (omega arith) (omega (arith, m.1)))

module _ (f : ℕ → ℕ) (key : ℕ) where
  abbrev goes_on : ℕ → List ℕ → Bool
  goes_on k ks = list_any (λ j. nat_le (f j) (f key)) (k ∷ ks)

  -- the elements of the list with the key
  pub Contains-enter : (xs : List ℕ) (x : ℕ) → Contains (enter f key xs) x → (key ≡ x) ⊎ Contains xs x
  Contains-enter [] x m = Contains-cases key [] x m
  Contains-enter (k ∷ ks) x m = go (goes_on k ks) (Contains-enter ks x) m
    where
      go : (b : Bool) → (Contains (enter f key ks) x → (key ≡ x) ⊎ Contains ks x) → Contains (cond b (k ∷ enter f key ks) (key ∷ k ∷ ks)) x → (key ≡ x) ⊎ Contains (k ∷ ks) x
      go true below m = elim (Contains-cases k (enter f key ks) x m) [
        | inl e ↦ inr (subst (λ (z : ℕ). Contains (k ∷ ks) z) e (Contains-here k ks))
        | inr n ↦ elim (below n) [ inl e ↦ inl e | inr r ↦ inr (Contains-later k ks x r) ]
      ]
      go false below m = Contains-cases key (k ∷ ks) x m

  pub Contains-entered : (xs : List ℕ) → Contains (enter f key xs) key
  Contains-entered [] = Contains-here key []
  Contains-entered (k ∷ ks) = go (goes_on k ks) (Contains-entered ks)
    where
      go : (b : Bool) → Contains (enter f key ks) key → Contains (cond b (k ∷ enter f key ks) (key ∷ k ∷ ks)) key
      go true below = Contains-later k (enter f key ks) key below
      go false below = Contains-here key (k ∷ ks)

  pub Contains-enter_kept : (xs : List ℕ) (x : ℕ) → Contains xs x → Contains (enter f key xs) x
  Contains-enter_kept [] x m = absurd (Contains-nil x m)
  Contains-enter_kept (k ∷ ks) x m = go (goes_on k ks) (Contains-enter_kept ks x)
    where
      go : (b : Bool) → (Contains ks x → Contains (enter f key ks) x) → Contains (cond b (k ∷ enter f key ks) (key ∷ k ∷ ks)) x
      go true below = elim (Contains-cases k ks x m) [
        | inl e ↦ subst (λ (z : ℕ). Contains (k ∷ enter f key ks) z) e (Contains-here k (enter f key ks))
        | inr n ↦ Contains-later k (enter f key ks) x (below n)
      ]
      go false below = Contains-later key (k ∷ ks) x m

  pub Once-enter : (xs : List ℕ) → Once xs → ¬ Contains xs key → Once (enter f key xs)
  Once-enter [] h n = AllPairs-more (λ j k. j ≢ k) key [] (λ y m. absurd (Contains-nil y m)) h
  Once-enter (k ∷ ks) h n = go (goes_on k ks) (Once-enter ks (Once-tail k ks h) (λ m. n (Contains-later k ks key m)))
    where
      not_key : k ≢ key
      not_key e = n (subst (λ (z : ℕ). Contains (k ∷ ks) z) e (Contains-here k ks))

      go : (b : Bool) → Once (enter f key ks) → Once (cond b (k ∷ enter f key ks) (key ∷ k ∷ ks))
      go true below = AllPairs-more (λ j k. j ≢ k) k (enter f key ks) (λ y m e. elim (Contains-enter ks y m) [ inl d ↦ not_key (e ∙ sym d) | inr r ↦ Once-head k ks h (subst (Contains ks) (sym e) r) ]) below
      go false below = AllPairs-more (λ j k. j ≢ k) key (k ∷ ks) (λ y m e. n (subst (Contains (k ∷ ks)) (sym e) m)) h

  abbrev Rises : List ℕ → Type 0
  Rises xs = AllPairs (λ j k. f j ≤ f k) xs

  none_low : (xs : List ℕ) → ((y : ℕ) → Contains xs y → f key < f y) → list_any (λ j. nat_le (f j) (f key)) xs ≡ false
  none_low [] h = refl
  none_low (x ∷ xs) h = rw (lt-leb (f x) (f key) (h x (Contains-here x xs)), none_low xs (λ y m. h y (Contains-later x xs y m))) refl

  -- in a rising list, the key goes after the first element if that is not above it
  goes_by_first : (k : ℕ) (ks : List ℕ) → Rises (k ∷ ks) → goes_on k ks ≡ nat_le (f k) (f key)
  goes_by_first k ks h = go (cases_lt (f key) (f k))
    where
      go : (f key < f k) ⊎ (f k ≤ f key) → goes_on k ks ≡ nat_le (f k) (f key)
      go (inl l) =
          let low : nat_le (f k) (f key) ≡ false = lt-leb (f k) (f key) l in
          let none = none_low ks (λ y m. let above = AllPairs-first (λ a b. f a ≤ f b) k ks h y m in omega (arith, l, above)) in
          rw (low, none) refl
      go (inr l) = let low : nat_le (f k) (f key) ≡ true = le-leb (f k) (f key) l in rw low refl

  pub Rises-enter : (xs : List ℕ) → Rises xs → Rises (enter f key xs)
  Rises-enter [] h = AllPairs-more (λ j k. f j ≤ f k) key [] (λ y m. absurd (Contains-nil y m)) h
  Rises-enter (k ∷ ks) h = subst (λ (b : Bool). Rises (cond b (k ∷ enter f key ks) (key ∷ k ∷ ks))) (sym (goes_by_first k ks h)) (go (Rises-enter ks (AllPairs-tail (λ a b. f a ≤ f b) k ks h)) (cases_lt (f key) (f k)))
    where
      go : Rises (enter f key ks) → (f key < f k) ⊎ (f k ≤ f key) → Rises (cond (nat_le (f k) (f key)) (k ∷ enter f key ks) (key ∷ k ∷ ks))
      go below (inl l) = rw (lt-leb (f k) (f key) l) (AllPairs-more (λ a b. f a ≤ f b) key (k ∷ ks) (λ y m.
          elim (Contains-cases k ks y m) [
            | inl e ↦ subst (λ (z : ℕ). f key ≤ f z) e (omega (arith, l))
            | inr n ↦ let above = AllPairs-first (λ a b. f a ≤ f b) k ks h y n in omega (arith, l, above)
          ]) h)
      go below (inr l) = rw (le-leb (f k) (f key) l) (AllPairs-more (λ a b. f a ≤ f b) k (enter f key ks) (λ y m.
          elim (Contains-enter ks y m) [
            | inl e ↦ subst (λ (z : ℕ). f k ≤ f z) e l
            | inr n ↦ AllPairs-first (λ a b. f a ≤ f b) k ks h y n
          ]) below)

  -- the elements of a slot
  abbrev part : ℕ → List ℕ → List ℕ
  part s xs = filter (λ k. f k == s) xs

  part-none : (s : ℕ) (xs : List ℕ) → ((y : ℕ) → Contains xs y → f y ≢ s) → part s xs ≡ []
  part-none s [] h = refl
  part-none s (x ∷ xs) h = rw (ne_eqb (f x) s (h x (Contains-here x xs))) (part-none s xs (λ y m. h y (Contains-later x xs y m)))

  -- the key is the last of its slot
  pub part-enter : (xs : List ℕ) → Rises xs → filter (λ k. f k == f key) (enter f key xs) ≡ filter (λ k. f k == f key) xs ++ key ∷ []
  part-enter [] h = rw (eq-eqb (f key) (f key) refl) refl
  part-enter (k ∷ ks) h = subst (λ (b : Bool). part (f key) (cond b (k ∷ enter f key ks) (key ∷ k ∷ ks)) ≡ part (f key) (k ∷ ks) ++ key ∷ []) (sym (goes_by_first k ks h)) (go (part-enter ks (AllPairs-tail (λ a b. f a ≤ f b) k ks h)) (cases_lt (f key) (f k)))
    where
      go : part (f key) (enter f key ks) ≡ part (f key) ks ++ key ∷ [] → (f key < f k) ⊎ (f k ≤ f key) → part (f key) (cond (nat_le (f k) (f key)) (k ∷ enter f key ks) (key ∷ k ∷ ks)) ≡ part (f key) (k ∷ ks) ++ key ∷ []
      go below (inl l) =
          let none : part (f key) (k ∷ ks) ≡ [] = part-none (f key) (k ∷ ks) (λ y m e.
          elim (Contains-cases k ks y m) [
            | inl d ↦ omega (arith, l, e, ap f d)
            | inr n ↦ let above = AllPairs-first (λ a b. f a ≤ f b) k ks h y n in omega (arith, l, e, above)
          ]) in
          rw (lt-leb (f k) (f key) l, eq-eqb (f key) (f key) refl) (ap (λ (ys : List ℕ). key ∷ ys) none ∙ ap (λ (ys : List ℕ). ys ++ key ∷ []) (sym none))
      go below (inr l) = rw (le-leb (f k) (f key) l) (elim (cases_eq (f k) (f key)) [
        | inl e ↦ rw (eq-eqb (f k) (f key) e) (ap (λ (ys : List ℕ). k ∷ ys) below)
        | inr n ↦ rw (ne_eqb (f k) (f key) n) below
      ])

  -- the other slots are unchanged
  pub part-enter_other : (s : ℕ) (xs : List ℕ) → f key ≢ s → filter (λ k. f k == s) (enter f key xs) ≡ filter (λ k. f k == s) xs
  part-enter_other s [] n = rw (ne_eqb (f key) s n) refl
  part-enter_other s (k ∷ ks) n = go (goes_on k ks) (part-enter_other s ks n)
    where
      go : (b : Bool) → part s (enter f key ks) ≡ part s ks → part s (cond b (k ∷ enter f key ks) (key ∷ k ∷ ks)) ≡ part s (k ∷ ks)
      go true below = ap (λ (ys : List ℕ). cond (f k == s) (k ∷ ys) ys) below
      go false below = rw (ne_eqb (f key) s n) refl

-- two tests that agree for each element keep the same elements
pub filter_same : (p q : ℕ → Bool) (xs : List ℕ) → ((x : ℕ) → Contains xs x → p x ≡ q x) → filter p xs ≡ filter q xs
filter_same p q [] h = refl
filter_same p q (x ∷ xs) h =
    ap₂ (λ (b : Bool) (ys : List ℕ). cond b (x ∷ ys) ys) (h x (Contains-here x xs)) (filter_same p q xs (λ y m. h y (Contains-later x xs y m)))

pub Contains-part : (p : ℕ → Bool) (xs : List ℕ) (x : ℕ) → Contains (filter p xs) x → Contains xs x
Contains-part p xs x m = All-contains (Contains xs) (filter p xs) x (All-filter p (Contains xs) xs (All-contains_itself xs)) m

pub Contains-passes : (p : ℕ → Bool) (xs : List ℕ) (x : ℕ) → Contains xs x → p x ≡ true → Contains (filter p xs) x
Contains-passes p [] x m e = m
Contains-passes p (y ∷ ys) x m e = elim (Contains-cases y ys x m) [
  | inl d ↦ let passes : p y ≡ true = ap p d ∙ e in rw passes (subst (λ (z : ℕ). Contains (y ∷ filter p ys) z) d (Contains-here y (filter p ys)))
  | inr n ↦ go (p y) (Contains-passes p ys x n e)
]
  where
    go : (b : Bool) → Contains (filter p ys) x → Contains (cond b (y ∷ filter p ys) (filter p ys)) x
    go true n = Contains-later y (filter p ys) x n
    go false n = n

pub filter-swap : (p q : ℕ → Bool) (xs : List ℕ) → filter p (filter q xs) ≡ filter q (filter p xs)
filter-swap p q [] = refl
filter-swap p q (x ∷ xs) = go (p x) (q x) refl refl (filter-swap p q xs)
  where
    go : (a b : Bool) → p x ≡ a → q x ≡ b → filter p (filter q xs) ≡ filter q (filter p xs) → filter p (cond b (x ∷ filter q xs) (filter q xs)) ≡ filter q (cond a (x ∷ filter p xs) (filter p xs))
    go true true e d below = rw (e, d) (ap (λ (ys : List ℕ). x ∷ ys) below)
    go true false e d below = rw d below
    go false true e d below = rw e below
    go false false e d below = below

pub Contains-stays : (key : ℕ) (xs : List ℕ) (x : ℕ) → Contains xs x → x ≢ key → Contains (filter (is_not key) xs) x
Contains-stays key xs x m n = Contains-passes (is_not key) xs x m (ap not (ne_eqb x key n))

pub Contains-left : (key : ℕ) (xs : List ℕ) → ¬ Contains (filter (is_not key) xs) key
Contains-left key xs m =
    let passes : is_not key key ≡ true = All-contains (λ k. is_not key k ≡ true) (filter (is_not key) xs) key (filter_passes (is_not key) xs) m in
    cc (passes, ap not (eq-eqb key key refl))
