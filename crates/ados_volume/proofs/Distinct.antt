-- Lists without duplicates.
use Rattle.ados_volume.proofs.Common.{Contains, Contains-append_cases, Contains-cases, Contains-here, Contains-later, Contains-nil, List, Once, Once-append, Once-head, Once-tail, [], arith, inl, inr, reverse, reverse-append, subst, sym, ℕ, ◌++◌, ◌∷◌, ◌≡◌}

pub Once-nil : Once []
Once-nil i j d l m = absurd (omega arith)

pub Once-one : (x : ℕ) → Once (x ∷ [])
Once-one x i j d l m = absurd (omega arith)

pub Contains-one : (x y : ℕ) → Contains (x ∷ []) y → x ≡ y
Contains-one x y m = elim (Contains-cases x [] y m) [ inl same ↦ same | inr none ↦ absurd (Contains-nil y none) ]

pub Contains-reverse : (xs : List ℕ) (x : ℕ) → Contains (reverse xs) x → Contains xs x
Contains-reverse [] x m = m
Contains-reverse (y ∷ ys) x m =
    let split : reverse (y ∷ ys) ≡ reverse ys ++ y ∷ [] = reverse-append (y ∷ []) ys in
    elim (Contains-append_cases (reverse ys) (y ∷ []) x (subst (λ (zs : List ℕ). Contains zs x) split m)) [
      | inl n ↦ Contains-later y ys x (Contains-reverse ys x n)
      | inr n ↦ subst (Contains (y ∷ ys)) (Contains-one y x n) (Contains-here y ys)
    ]

pub Once-reverse : (xs : List ℕ) → Once xs → Once (reverse xs)
Once-reverse [] h = h
Once-reverse (x ∷ xs) h =
    let split : reverse (x ∷ xs) ≡ reverse xs ++ x ∷ [] = reverse-append (x ∷ []) xs in
    subst Once (sym split) (Once-append (reverse xs) (x ∷ []) (Once-reverse xs (Once-tail x xs h)) (Once-one x)
    (λ z m n. Once-head x xs h (subst (Contains xs) (sym (Contains-one x z n)) (Contains-reverse xs z m))))
