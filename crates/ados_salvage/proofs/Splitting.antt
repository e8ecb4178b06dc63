-- Blocks that are put into a list one by one, or left.
use Rattle.ados_salvage.proofs.KnownCommon.{◌≡◌, ℕ, ◌+◌, ◌<◌, ◌⊎◌, inl, inr, List, [], ◌∷◌, ◌++◌, All, Contains, sym, subst, arith, cases_lt, All-nil, All-push, Contains-append_left, Contains-push}

-- each block below n is of one sort, or it is in the list, which has only blocks of the other sort
pub record Splits (Listed Other : ℕ → Type 0) (n : ℕ) (blocks : List ℕ) : Type 0 where
  pub below : All (λ block. block < n) blocks
  pub only : All Listed blocks
  pub each : (block : ℕ) → block < n → Other block ⊎ Contains blocks block

module _ (Listed Other : ℕ → Type 0) where
  pub splits_none : (n : ℕ) (blocks : List ℕ) → blocks ≡ [] → ((block : ℕ) → block < n → Other block) → Splits Listed Other n blocks
  splits_none n blocks e others = record {
    below = subst (All (λ (block : ℕ). block < n)) (sym e) (All-nil (λ (block : ℕ). block < n));
    only = subst (All Listed) (sym e) (All-nil Listed);
    each = λ block l. inl (others block l);
  }

  module _ (n : ℕ) (blocks : List ℕ) (h : Splits Listed Other n blocks) where
    pub splits_left : Other n → Splits Listed Other (n + 1) blocks
    splits_left other = record {
      below = λ k d l. omega (arith, h.below k d l);
      only = h.only;
      each = λ block l. elim (cases_lt block n) [
        | inl before ↦ h.each block before
        | inr behind ↦ (let here : n ≡ block = omega (arith, l, behind) in inl (subst Other here other))
      ];
    }

    pub splits_more : (more : List ℕ) → more ≡ blocks ++ n ∷ [] → Listed n → Splits Listed Other (n + 1) more
    splits_more more e here = subst (Splits Listed Other (n + 1)) (sym e) (record {
      below = All-push (λ (block : ℕ). block < n + 1) blocks n (λ k d l. omega (arith, h.below k d l)) (omega arith);
      only = All-push Listed blocks n h.only here;
      each = λ block l. elim (cases_lt block n) [
        | inl before ↦ elim (h.each block before) [
          | inl other ↦ inl other
          | inr there ↦ inr (Contains-append_left blocks (n ∷ []) block there)
        ]
        | inr behind ↦ (let same : n ≡ block = omega (arith, l, behind) in inr (subst (Contains (blocks ++ n ∷ [])) same (Contains-push blocks n)))
      ];
    })
