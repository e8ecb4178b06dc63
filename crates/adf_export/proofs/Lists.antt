-- Lists without duplicates, and concatenated lists.
use Rattle.adf_export.proofs.Common.{◌≡◌, ◌≢◌, ℕ, ◌+◌, inl, inr, List, [], ◌∷◌, length, Contains, length-append, refl, sym, ap₂, ◌∙◌, subst, flat_map, Contains-append_cases, Once, Once-head, Once-tail, Contains-here, Contains-later, Contains-nil, Once-append}

-- an element of a concatenation is in one of its lists
pub in_joined : (f : ℕ → List ℕ) (xs : List ℕ) (y : ℕ) → Contains (flat_map f xs) y → (x : ℕ) × Contains xs x × Contains (f x) y
in_joined f [] y m = absurd (Contains-nil y m)
in_joined f (x ∷ xs) y m = elim (Contains-append_cases (f x) (flat_map f xs) y m) [
  | inl here ↦ (x, Contains-here x xs, here)
  | inr later ↦ let r = in_joined f xs y later in (r.0, Contains-later x xs r.0 r.1, r.2)
]

-- lists without common elements
pub Once-joined : (f : ℕ → List ℕ) (xs : List ℕ) → Once xs → ((x : ℕ) → Contains xs x → Once (f x))
    → ((x y k : ℕ) → Contains xs x → Contains xs y → x ≢ y → Contains (f x) k → ¬ Contains (f y) k) → Once (flat_map f xs)
Once-joined f [] once each apart = once
Once-joined f (x ∷ xs) once each apart =
    Once-append (f x) (flat_map f xs) (each x (Contains-here x xs))
    (Once-joined f xs (Once-tail x xs once) (λ y c. each y (Contains-later x xs y c)) (λ y z k c d. apart y z k (Contains-later x xs y c) (Contains-later x xs z d)))
    (λ k here later.
    let r = in_joined f xs k later in
    apart x r.0 k (Contains-here x xs) (Contains-later x xs r.0 r.1) (λ same. Once-head x xs once (subst (Contains xs) (sym same) r.1)) here r.2)

-- concatenations of lists of equal lengths
pub length-joined : {A B : Type 0} (f : ℕ → List A) (g : ℕ → List B) → ((x : ℕ) → length (f x) ≡ length (g x)) → (xs : List ℕ) → length (flat_map f xs) ≡ length (flat_map g xs)
length-joined f g same [] = refl
length-joined f g same (x ∷ xs) =
    length-append (f x) (flat_map f xs) ∙ ap₂ (λ (a b : ℕ). a + b) (same x) (length-joined f g same xs) ∙ sym (length-append (g x) (flat_map g xs))
