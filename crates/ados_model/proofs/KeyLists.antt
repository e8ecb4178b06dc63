-- Lists of keys without duplicates.
use Rattle.ados_model.proofs.Common.{◌≡◌, ◌≢◌, ℕ, zero, suc, ◌<◌, ◌≤◌, ◌⊎◌, inl, inr, Bool, true, false, cond, eqb, ◌==◌, not, List, [], ◌∷◌, ◌++◌, length, filter, AllPairs, Contains, refl, sym, ap, ap₂, ◌∙◌, subst, arith, eq-eqb, eqb-true, slice_index, ◌+◌, ◌-◌, get_or, Decides-eqb, Contains-append_cases, Contains-get_or, filter-append, get_or_append_left, get_or-append_right, get_or_default, length-append, list_any, AllPairs-cons}
use Rattle.std.proofs.lemmas.Bool.{ne_eqb}
use Rattle.std.proofs.lemmas.Map.Made.{IsDistinct-from_AllPairs}
use Rattle.std.proofs.lemmas.Map.Views.{Contains-from_any}
use Rattle.std.proofs.lemmas.Map.Steps.{length-le_from_distinct_below}

pub Contains-here : (x : ℕ) (xs : List ℕ) → Contains (x ∷ xs) x
Contains-here x xs = (0, omega arith, refl)

pub Contains-later : (y : ℕ) (xs : List ℕ) (x : ℕ) → Contains xs x → Contains (y ∷ xs) x
Contains-later y xs x m = (suc m.0, omega (arith, m.1), m.2)

pub Contains-cases : (y : ℕ) (xs : List ℕ) (x : ℕ) → Contains (y ∷ xs) x → (y ≡ x) ⊎ Contains xs x
Contains-cases y xs x (zero, l, e) = inl e
Contains-cases y xs x (suc k, l, e) = inr (k, omega arith, e)

pub Contains-nil : (x : ℕ) → ¬ Contains [] x
Contains-nil x m = absurd (omega (arith, m.1))

-- a list split at one of its elements
pub Contains-split : (xs : List ℕ) (x : ℕ) → Contains xs x → (front : List ℕ) × (back : List ℕ) × (xs ≡ front ++ x ∷ back)
Contains-split [] x m = absurd (Contains-nil x m)
Contains-split (y ∷ ys) x m = go (Contains-cases y ys x m) (Contains-split ys x)
  where
    go : (y ≡ x) ⊎ Contains ys x → (Contains ys x → (front : List ℕ) × (back : List ℕ) × (ys ≡ front ++ x ∷ back)) → (front : List ℕ) × (back : List ℕ) × (y ∷ ys ≡ front ++ x ∷ back)
    go (inl e) below = ([], ys, ap (λ (z : ℕ). z ∷ ys) e)
    go (inr n) below = let r = below n in (y ∷ r.0, r.1, ap (λ (zs : List ℕ). y ∷ zs) r.2)

-- no duplicates
abbrev pub Once : List ℕ → Type 0
Once xs = AllPairs (λ j k. j ≢ k) xs

pub Once-tail : (x : ℕ) (xs : List ℕ) → Once (x ∷ xs) → Once xs
Once-tail x xs h i j d l m = h (suc i) (suc j) d (omega arith) (omega arith)

pub Once-head : (x : ℕ) (xs : List ℕ) → Once (x ∷ xs) → ¬ Contains xs x
Once-head x xs h m = h 0 (suc m.0) x (omega arith) (omega (arith, m.1)) (sym m.2)

-- a key occurs neither after itself nor before itself
pub Once-behind : (xs : List ℕ) (x : ℕ) (ys : List ℕ) → Once (xs ++ x ∷ ys) → ¬ Contains ys x
Once-behind [] x ys h = Once-head x ys h
Once-behind (z ∷ zs) x ys h = Once-behind zs x ys (Once-tail z (zs ++ x ∷ ys) h)

pub Once-front : (xs ys : List ℕ) → Once (xs ++ ys) → Once xs
Once-front xs ys h i j d l m e = h i j d l (omega (arith, m, length-append xs ys)) (get_or_append_left xs ys d i (omega (arith, l, m)) ∙ e ∙ sym (get_or_append_left xs ys d j m))

-- a key before is not a key after
pub Once-apart : (xs ys : List ℕ) (x : ℕ) → Once (xs ++ ys) → Contains xs x → ¬ Contains ys x
Once-apart xs ys x h (i, l, e) (j, m, f) =
    let behind : length xs + j - length xs ≡ j = omega arith in
    h i (length xs + j) x (omega (arith, l)) (omega (arith, m, length-append xs ys))
    (get_or_append_left xs ys x i l ∙ e ∙ sym (get_or-append_right xs ys (length xs) (length xs + j) x refl (omega arith) ∙ ap (λ (k : ℕ). get_or ys k x) behind ∙ f))

pub Once-before : (xs : List ℕ) (x : ℕ) (ys : List ℕ) → Once (xs ++ x ∷ ys) → ¬ Contains xs x
Once-before xs x ys h m = Once-apart xs (x ∷ ys) x h m (Contains-here x ys)

-- a list of numbers below n without duplicates has at most n elements
pub length-once : (xs : List ℕ) (n : ℕ) → Once xs → ((x : ℕ) → Contains xs x → x < n) → length xs ≤ n
length-once xs n h small = length-le_from_distinct_below xs n (IsDistinct-from_AllPairs Decides-eqb xs h) (λ q any. small q (Contains-from_any {eq = eqb} eqb-true q xs any))

-- the test for the keys that `without` keeps
abbrev pub is_not : ℕ → ℕ → Bool
is_not key other = not (other == key)

pub filter-absent : (key : ℕ) (xs : List ℕ) → ¬ Contains xs key → filter (is_not key) xs ≡ xs
filter-absent key [] h = refl
filter-absent key (x ∷ xs) h =
    rw (ne_eqb x key (λ e. h (subst (λ (z : ℕ). Contains (x ∷ xs) z) e (Contains-here x xs))))
    (ap (λ (ys : List ℕ). x ∷ ys) (filter-absent key xs (λ m. h (Contains-later x xs key m))))

pub filter-once : (key : ℕ) (xs ys : List ℕ) → Once (xs ++ key ∷ ys) → filter (is_not key) (xs ++ key ∷ ys) ≡ xs ++ ys
filter-once key xs ys h =
    filter-append (is_not key) xs (key ∷ ys)
    ∙ ap₂ (λ (ys zs : List ℕ). ys ++ zs) (filter-absent key xs (Once-before xs key ys h)) (here ∙ filter-absent key ys (Once-behind xs key ys h))
  where
    here : filter (is_not key) (key ∷ ys) ≡ filter (is_not key) ys
    here = rw (eq-eqb key key refl) refl

pub Contains-filter : (key : ℕ) (xs : List ℕ) (x : ℕ) → Contains (filter (is_not key) xs) x → Contains xs x
Contains-filter key [] x m = m
Contains-filter key (y ∷ ys) x m = go (is_not key y) (Contains-filter key ys x) m
  where
    go : (b : Bool) → (Contains (filter (is_not key) ys) x → Contains ys x) → Contains (cond b (y ∷ filter (is_not key) ys) (filter (is_not key) ys)) x → Contains (y ∷ ys) x
    go true below m = elim (Contains-cases y (filter (is_not key) ys) x m) [ inl e ↦ subst (λ (z : ℕ). Contains (y ∷ ys) z) e (Contains-here y ys) | inr n ↦ Contains-later y ys x (below n) ]
    go false below m = Contains-later y ys x (below m)

-- one more in front
pub Once-cons : (x : ℕ) (xs : List ℕ) → ¬ Contains xs x → Once xs → Once (x ∷ xs)
Once-cons x xs n h = AllPairs-cons (λ j k. j ≢ k) x xs (λ k d l e. n (subst (Contains xs) (sym e) (Contains-get_or xs k d l))) h

-- two lists without common elements
pub Once-append : (xs ys : List ℕ) → Once xs → Once ys → ((x : ℕ) → Contains xs x → ¬ Contains ys x) → Once (xs ++ ys)
Once-append [] ys h g apart = g
Once-append (x ∷ xs) ys h g apart =
    Once-cons x (xs ++ ys)
    (λ m. elim (Contains-append_cases xs ys x m) [ inl a ↦ Once-head x xs h a | inr b ↦ apart x (Contains-here x xs) b ])
    (Once-append xs ys (Once-tail x xs h) g (λ y c. apart y (Contains-later x xs y c)))

-- an element of a list is below the bound of the list
pub below_bound : (xs : List ℕ) (n q : ℕ) → ((i : ℕ) → i < length xs → slice_index xs i < n) → list_any (eqb q) xs ≡ true → q < n
below_bound xs n q small any =
    let m = Contains-from_any {eq = eqb} eqb-true q xs any in
    omega (arith, small m.0 m.1, get_or_default xs m.0 q 0 m.1, m.2)
