-- Marks of blocks, kind by kind.
use Rattle.std.proofs.Common.{◌≡◌, ℕ, ◌+◌, ◌<◌, ◌⊎◌, inl, inr, Bool, List, [], ◌∷◌, ◌++◌, take, length, get_or, Contains, refl, sym, ap, ◌∙◌, subst, arith}
use Rattle.ados_salvage.proofs.AccountCommon.{take_more, Contains-push, Contains-push_cases, Contains-append_left, page_block, Adds, OfOne}

-- no block has the property
pub adds_none : (P : ℕ → Type 0) (marks : List Bool) → ((b : ℕ) → b < length marks → ¬ P b) → Adds P marks marks
adds_none P marks none = record {
  size = refl;
  kept = λ b is. is;
  added = λ b l p. absurd (none b l p);
  only = λ b is. inl is;
}

-- a kind under another name
pub adds_as : (P Q : ℕ → Type 0) (old new : List Bool) → ((b : ℕ) → P b → Q b) → ((b : ℕ) → Q b → P b) → Adds P old new → Adds Q old new
adds_as P Q old new there back a = record {
  size = a.size;
  kept = a.kept;
  added = λ b l q. a.added b l (back b q);
  only = λ b is. elim (a.only b is) [
    | inl m ↦ inl m
    | inr p ↦ inr (there b p)
  ];
}

-- one kind and then another
pub adds_both : (P Q : ℕ → Type 0) (old mid new : List Bool) → Adds P old mid → Adds Q mid new → Adds (λ b. P b ⊎ Q b) old new
adds_both P Q old mid new a c = record {
  size = c.size ∙ a.size;
  kept = λ b is. c.kept b (a.kept b is);
  added = λ b l h. elim h [
    | inl p ↦ c.kept b (a.added b l p)
    | inr q ↦ c.added b (omega (arith, l, a.size)) q
  ];
  only = λ b is. elim (c.only b is) [
    | inl m ↦ elim (a.only b m) [
      | inl o ↦ inl o
      | inr p ↦ inr (inl p)
    ]
    | inr q ↦ inr (inr q)
  ];
}

module _ {X : Type 0} (P : X → ℕ → Type 0) where
  pub of_none : (xs : List X) (i : ℕ) → i ≡ 0 → (b : ℕ) → ¬ OfOne P (take i xs) b
  of_none xs i none b o =
      let empty : Contains (take 0 xs) o.one = subst (λ (k : ℕ). Contains (take k xs) o.one) none o.listed in
      absurd (omega (arith, empty.1))

  pub of_more : (xs : List X) (x : X) (b : ℕ) → OfOne P xs b ⊎ P x b → OfOne P (xs ++ x ∷ []) b
  of_more xs x b (inl o) = record { one = o.one; listed = Contains-append_left xs (x ∷ []) o.one o.listed; has = o.has }
  of_more xs x b (inr p) = record { one = x; listed = Contains-push xs x; has = p }

  pub of_fewer : (xs : List X) (x : X) (b : ℕ) → OfOne P (xs ++ x ∷ []) b → OfOne P xs b ⊎ P x b
  of_fewer xs x b o = elim (Contains-push_cases xs x o.one o.listed) [
    | inl there ↦ inl (record { one = o.one; listed = there; has = o.has })
    | inr e ↦ inr (subst (λ (y : X). P y b) (sym e) o.has)
  ]

  -- for one more of a list
  pub adds_more : (xs : List X) (i : ℕ) (x : X) → i < length xs → x ≡ get_or xs i x → (old mid new : List Bool) → Adds (OfOne P (take i xs)) old mid → Adds (P x) mid new → Adds (OfOne P (take (i + 1) xs)) old new
  adds_more xs i x l is old mid new a c =
      let grown : take (i + 1) xs ≡ take i xs ++ x ∷ [] = take_more xs i x l ∙ ap (λ (y : X). take i xs ++ y ∷ []) (sym is) in
      subst (λ (ys : List X). Adds (OfOne P ys) old new) (sym grown)
      (adds_as (λ b. OfOne P (take i xs) b ⊎ P x b) (OfOne P (take i xs ++ x ∷ [])) old new (of_more (take i xs) x) (of_fewer (take i xs) x) (adds_both (OfOne P (take i xs)) (P x) old mid new a c))

-- one of the first bitmap blocks
abbrev pub IsPageBelow : List ℕ → ℕ → ℕ → Type 0
IsPageBelow image n block = (p : ℕ) × (p < n) × (page_block image p ≡ block)
