-- Facts about each row of a table, and about keys in no row.
use Rattle.ados_model.proofs.Common.{◌≡◌, ℕ, Bool, true, false, cond, ◌==◌, List, [], ◌∷◌, Option, Some, None, refl, sym, subst, eqb-true}

-- the value of a table at a key
abbrev pub at_key : {A : Type 0} → List (ℕ × A) → ℕ → Option A
at_key [] key = None
at_key (row ∷ rows) key = cond (key == row.0) (Some row.1) (at_key rows key)

-- P holds for each row
abbrev pub EachRow : {A : Type 0} → (ℕ → A → Type 0) → List (ℕ × A) → Type 0
EachRow P [] = Unit {0}
EachRow P (row ∷ rows) = P row.0 row.1 × EachRow P rows

module _ {A : Type 0} (P : ℕ → A → Type 0) where
  pub each_row : (rows : List (ℕ × A)) → EachRow P rows → (key : ℕ) (a : A) → at_key rows key ≡ Some a → P key a
  each_row [] h key a e = absurd (cc e)
  each_row (row ∷ rows) h key a e = go (each_row rows h.1 key a) (key == row.0) refl e
    where
      go : (at_key rows key ≡ Some a → P key a) → (here : Bool) → (key == row.0) ≡ here → cond here (Some row.1) (at_key rows key) ≡ Some a → P key a
      go later true same e = subst (λ (k : ℕ). P k a) (sym (eqb-true key row.0 same)) (subst (P row.0) (cc e) h.0)
      go later false same e = later e

-- a fact about each key, and about each number that is none
pub by_rows : {A : Type 0} (P : ℕ → Type 0) (rows : List (ℕ × A)) → EachRow (λ key a. P key) rows → ((key : ℕ) → at_key rows key ≡ None → P key) → (key : ℕ) → P key
by_rows {A = A} P rows h others key = go (at_key rows key) refl
  where
    go : (o : Option A) → at_key rows key ≡ o → P key
    go (Some a) e = each_row (λ k b. P k) rows h key a e
    go None e = others key e
