-- Blocks with a property, while they are listed in order.
use Rattle.ados_salvage.proofs.KnownCommon.{◌≡◌, ℕ, ◌+◌, ◌<◌, inl, inr, List, [], ◌∷◌, ◌++◌, All, AllPairs, Contains, sym, subst, arith, cases_lt, All-nil, All-push, Contains-append_left, Contains-push, all_pairs_push}

-- the blocks are exactly those below n with a property, in order
pub record ListsBelow (P : ℕ → Type 0) (n : ℕ) (blocks : List ℕ) : Type 0 where
  pub in_order : AllPairs (λ a b. a < b) blocks
  pub below : All (λ block. block < n) blocks
  pub each : All P blocks
  pub all : (block : ℕ) → block < n → P block → Contains blocks block

module _ (P : ℕ → Type 0) where
  pub lists_none : (n : ℕ) (blocks : List ℕ) → blocks ≡ [] → ((block : ℕ) → block < n → ¬ P block) → ListsBelow P n blocks
  lists_none n blocks e none = record {
    in_order = subst (AllPairs (λ (a b : ℕ). a < b)) (sym e) (λ i j d l m. absurd (omega (arith, l, m)));
    below = subst (All (λ (block : ℕ). block < n)) (sym e) (All-nil (λ (block : ℕ). block < n));
    each = subst (All P) (sym e) (All-nil P);
    all = λ block l p. absurd (none block l p);
  }

  module _ (n : ℕ) (blocks : List ℕ) (h : ListsBelow P n blocks) where
    pub lists_same : ¬ P n → ListsBelow P (n + 1) blocks
    lists_same none = record {
      in_order = h.in_order;
      below = λ k d l. omega (arith, h.below k d l);
      each = h.each;
      all = λ block l p. elim (cases_lt block n) [
        | inl before ↦ h.all block before p
        | inr behind ↦ (let here : block ≡ n = omega (arith, l, behind) in absurd (none (subst P here p)))
      ];
    }

    pub lists_more : (more : List ℕ) → more ≡ blocks ++ n ∷ [] → P n → ListsBelow P (n + 1) more
    lists_more more e here = subst (ListsBelow P (n + 1)) (sym e) (record {
      in_order = all_pairs_push (λ (a : ℕ) (b : ℕ). a < b) blocks n h.in_order (λ k d l. h.below k d l);
      below = All-push (λ (block : ℕ). block < n + 1) blocks n (λ k d l. omega (arith, h.below k d l)) (omega arith);
      each = All-push P blocks n h.each here;
      all = λ block l p. elim (cases_lt block n) [
        | inl before ↦ Contains-append_left blocks (n ∷ []) block (h.all block before p)
        | inr behind ↦ (let same : n ≡ block = omega (arith, l, behind) in subst (Contains (blocks ++ n ∷ [])) same (Contains-push blocks n))
      ];
    })
