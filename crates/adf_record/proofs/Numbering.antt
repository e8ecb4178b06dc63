-- Blocks with a property, while they are counted in order.
use Rattle.adf_record.proofs.Common.{◌≡◌, ℕ, zero, ◌+◌, ◌<◌, ◌≤◌, inl, inr, List, [], ◌∷◌, ◌++◌, length, All, refl, sym, ap, ◌∙◌, subst, arith, length-append}
use Rattle.std.proofs.Common.{AllPairs, Contains}
use Rattle.std.proofs.lemmas.Bool.{cases_lt}
use Rattle.std.proofs.lemmas.List.Elements.{All-map, All-nil, All-push, Contains-append_left, Contains-push}
use Rattle.std.proofs.lemmas.List.Quantifiers.{all_pairs_push}
use Rattle.adf_record.specs.Lost.{IsNumberOf, ListsAll}

-- the number of blocks below n with a property
pub record NumbersBelow (P : ℕ → Type 0) (n count : ℕ) : Type 0 where
  pub blocks : List ℕ
  pub in_order : AllPairs (λ a b. a < b) blocks
  pub below : All (λ block. block < n) blocks
  pub each : All P blocks
  pub all : (block : ℕ) → block < n → P block → Contains blocks block
  pub count_is : count ≡ length blocks
  pub few : count ≤ n

module _ (P : ℕ → Type 0) where
  pub numbers_none : NumbersBelow P 0 0
  numbers_none = record {
    blocks = [];
    in_order = λ i j d l m. absurd (omega (arith, l, m));
    below = All-nil (λ (block : ℕ). block < 0);
    each = All-nil P;
    all = λ block l p. absurd (omega (arith, l));
    count_is = refl;
    few = omega arith;
  }

  module _ (n count : ℕ) (h : NumbersBelow P n count) where
    pub numbers_same : ¬ P n → NumbersBelow P (n + 1) count
    numbers_same none = record {
      blocks = h.blocks;
      in_order = h.in_order;
      below = λ k d l. omega (arith, h.below k d l);
      each = h.each;
      all = λ block l p. elim (cases_lt block n) [
        | inl before ↦ h.all block before p
        | inr behind ↦ (let here : block ≡ n = omega (arith, l, behind) in absurd (none (subst P here p)))
      ];
      count_is = h.count_is;
      few = omega (arith, h.few);
    }

    pub numbers_more : P n → NumbersBelow P (n + 1) (count + 1)
    numbers_more here = record {
      blocks = h.blocks ++ n ∷ [];
      in_order = all_pairs_push (λ (a : ℕ) (b : ℕ). a < b) h.blocks n h.in_order (λ k d l. h.below k d l);
      below = All-push (λ (block : ℕ). block < n + 1) h.blocks n (λ k d l. omega (arith, h.below k d l)) (omega arith);
      each = All-push P h.blocks n h.each here;
      all = λ block l p. elim (cases_lt block n) [
        | inl before ↦ Contains-append_left h.blocks (n ∷ []) block (h.all block before p)
        | inr behind ↦ (let same : n ≡ block = omega (arith, l, behind) in subst (Contains (h.blocks ++ n ∷ [])) same (Contains-push h.blocks n))
      ];
      count_is = omega (arith, h.count_is, length-append h.blocks (n ∷ []));
      few = omega (arith, h.few);
    }

    -- no block behind these has the property
    pub numbers_all : ((block : ℕ) → P block → block < n) → IsNumberOf P count
    numbers_all inside = (h.blocks, record { in_order = h.in_order; each = h.each; all = λ block p. h.all block (inside block p) p }, h.count_is)

-- the number of blocks with another property that the same blocks have
pub number_as : (P Q : ℕ → Type 0) → ((block : ℕ) → P block → Q block) → ((block : ℕ) → Q block → P block) → (n : ℕ) → IsNumberOf P n → IsNumberOf Q n
number_as P Q to from n h = (h.0, record { in_order = h.1.in_order; each = λ k d l. to _ (h.1.each k d l); all = λ block q. h.1.all block (from block q) }, h.2)
