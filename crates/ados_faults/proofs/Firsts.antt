-- What holds for the first elements of a list, as many as a number says.
use Rattle.ados_faults.proofs.Common.{◌∷◌, ◌++◌, [], get_or_append_left, get_or_from_slice_get, get_or_push, length_push, Option, None, set, cases_eq, length-set, get_or-set_same, get_or-set_other, none-some, ◌≡◌, ℕ, ◌+◌, ◌<◌, ◌≤◌, inl, inr, List, length, get_or, replicate, Some, sym, ap, ◌∙◌, subst, arith, Contains, slice_get, cases_lt, get_or_past, get_or-replicate, length-replicate, same_Some, slice_get-get_or, slice_get_within}

-- one more element
pub one_more : {A : Type 0} (xs : List A) (P Q : A → Type 0) (n : ℕ) (x : A) → slice_get xs n ≡ Some x → ((y : A) → P y → Q y) → Q x → ((k : ℕ) (y : A) → k < n → slice_get xs k ≡ Some y → P y)
    → (k : ℕ) (y : A) → k < n + 1 → slice_get xs k ≡ Some y → Q y
one_more xs P Q n x at on this before k y l e = elim (cases_lt k n) [
  | inl less ↦ on y (before k y less e)
  | inr past ↦
      let here : k ≡ n = omega (arith, l, past) in
      subst Q (same_Some x y (sym at ∙ ap (slice_get xs) (sym here) ∙ e)) this
]

-- all elements
pub all_firsts : (xs : List ℕ) (P : ℕ → Type 0) (n : ℕ) → length xs ≤ n → ((k x : ℕ) → k < n → slice_get xs k ≡ Some x → P x) → (x : ℕ) → Contains xs x → P x
all_firsts xs P n all each x c = each c.0 x (omega (arith, c.1, all)) (slice_get-get_or xs c.0 x c.1 ∙ ap (λ (y : ℕ). Some y) c.2)

-- what holds of each element with its index, and of one that is added
pub each_after_push : {A : Type 0} (P : ℕ → A → Type 0) (xs : List A) (n : ℕ) (new : A) → length xs ≡ n → P n new → ((k : ℕ) (x : A) → slice_get xs k ≡ Some x → P k x) → (k : ℕ) (x : A) → slice_get (xs ++ new ∷ []) k ≡ Some x → P k x
each_after_push {A = A} P xs n new size this each k x e =
    let within = slice_get_within (xs ++ new ∷ []) k x e in
    let is : get_or (xs ++ new ∷ []) k x ≡ x = get_or_from_slice_get (xs ++ new ∷ []) k x x e in
    elim (cases_lt k (length xs)) [
      | inl l ↦ each k x (slice_get-get_or xs k x l ∙ ap (λ (y : A). Some y) (sym (get_or_append_left xs (new ∷ []) x k l) ∙ is))
      | inr past ↦
          let here : length xs ≡ k = omega (arith, past, within, length_push xs new) in
          subst (λ (i : ℕ). P i x) (sym size ∙ here) (subst (P n) (sym (get_or_push xs new x k here) ∙ is) this)
    ]

-- ---- what is known of some blocks: `None` stands for nothing

-- one more is known
pub each_after_set : {A : Type 0} (P : ℕ → A → Type 0) (known : List (Option A)) (block : ℕ) (new : A) → block < length known → P block new → ((other : ℕ) (x : A) → slice_get known other ≡ Some (Some x) → P other x)
    → (other : ℕ) (x : A) → slice_get (set known block (Some new)) other ≡ Some (Some x) → P other x
each_after_set {A = A} P known block new l this each other x e = elim (cases_eq other block) [
  | inl here ↦
      let at : slice_get (set known block (Some new)) block ≡ Some (Some new) =
      slice_get-get_or (set known block (Some new)) block None (omega (arith, l, length-set known block (Some new))) ∙ ap (λ (o : Option A). Some o) (get_or-set_same known block (Some new) None l) in
      let same : Some new ≡ Some x = same_Some (Some new) (Some x) (sym at ∙ ap (slice_get (set known block (Some new))) (sym here) ∙ e) in
      subst (λ (b : ℕ). P b x) (sym here) (subst (P block) (same_Some new x same) this)
  | inr apart ↦
      let within = slice_get_within (set known block (Some new)) other (Some x) e in
      let m : other < length known = omega (arith, within, length-set known block (Some new)) in
      each other x
      (slice_get-get_or known other None m
      ∙ ap (λ (o : Option A). Some o) (sym (get_or-set_other known block other (Some new) None apart))
      ∙ sym (slice_get-get_or (set known block (Some new)) other None within) ∙ e)
]

-- ---- a list of equal elements

pub each_same : {A : Type 0} (n i : ℕ) (x : A) → get_or (replicate n x) i x ≡ x
each_same n i x = elim (cases_lt i n) [
  | inl l ↦ get_or-replicate n i x x l
  | inr past ↦ get_or_past (replicate n x) i x (omega (arith, past, length-replicate n x))
]

pub same_there : {A : Type 0} (n i : ℕ) (x y : A) → slice_get (replicate n x) i ≡ Some y → x ≡ y
same_there {A = A} n i x y e = same_Some x y (ap (λ (z : A). Some z) (sym (each_same n i x)) ∙ sym (slice_get-get_or (replicate n x) i x (slice_get_within (replicate n x) i y e)) ∙ e)

-- nothing is known
pub none_there : {A : Type 0} (n : ℕ) (known : List (Option A)) → known ≡ replicate n None → (i : ℕ) (x : A) → slice_get known i ≡ Some (Some x) → ⊥
none_there {A = A} n known none i x e = none-some x (same_there n i None (Some x) (ap (λ (xs : List (Option A)). slice_get xs i) (sym none) ∙ e))
