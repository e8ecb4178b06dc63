-- Files that keep their blocks, by the claims of what the root leads to.
use Rattle.ados_salvage.proofs.KnownCommon.{◌≡◌, ℕ, ◌<◌, ◌≤◌, ◌⊎◌, inl, inr, Bool, true, false, MatchBool, List, All, Contains, subst, arith, get_or_default, block_count, IsClaimant, IsSoundHeader, IsWhole}
use Rattle.ados_model.specs.Faults.{IsEntry}
use Rattle.ados_salvage.specs.Found.{AreUnreached, HasItsBlocks, HasNoFiller, IsSavedWhole}
use Rattle.ados_salvage.proofs.Splitting.{Splits}

-- a block that is left out, or that the root does not lead to; and any other block
abbrev pub IsAside : List ℕ → List ℕ → ℕ → Type 0
IsAside out image block = Contains out block ⊎ ¬ IsEntry image block

abbrev pub IsKept : List ℕ → List ℕ → ℕ → Type 0
IsKept out image block = (¬ Contains out block) × (IsSoundHeader image block → IsEntry image block)

-- what is listed of all blocks of the image is what is left out
pub unreached_by : (out image : List ℕ) (n : ℕ) (headers : List ℕ) → block_count image ≤ n → All (λ header. header < block_count image) out → Splits (IsAside out image) (IsKept out image) n headers → AreUnreached out image headers
unreached_by out image n headers size inside h = record {
  each = λ block sound. elim (h.each block (omega (arith, size, sound.inside.1))) [
    | inl kept ↦ inl (kept.1 sound)
    | inr there ↦ inr there
  ];
  also = λ block m. elim (h.each block (let l = inside m.0 block m.1 in omega (arith, size, l, get_or_default out m.0 0 block m.1, m.2))) [
    | inl kept ↦ absurd (kept.0 m)
    | inr there ↦ there
  ];
  only = λ block m. subst (IsAside out image) m.2 (h.only m.0 _ m.1);
}

module _ (out image : List ℕ) where
  -- what may claim blocks is the same by each such list
  same_claimant : (one other : List ℕ) → AreUnreached out image one → AreUnreached out image other → (file : ℕ) → IsClaimant one image file → IsClaimant other image file
  same_claimant one other o u file c = record {
    intact = c.intact;
    told = λ there. elim (u.only file there) [
      | inl left ↦ c.told (o.also file left)
      | inr away ↦ elim (o.each file c.intact.header) [
        | inl entry ↦ away entry
        | inr listed ↦ c.told listed
      ]
    ];
  }

  same_whole : (holes : List Bool) (one other : List ℕ) → AreUnreached out image one → AreUnreached out image other → (file : ℕ) → IsWhole one holes image file → IsWhole other holes image file
  same_whole holes one other o u file w = record {
    claimant = same_claimant one other o u file w.claimant;
    there = w.there;
    alone = λ another block c m k. w.alone another block (same_claimant other one u o another c) m k;
  }

  -- a file has its blocks by its claims, or by those of what the root leads to, and else not
  pub has_by : (holes : List Bool) (file : ℕ) (unreached : List ℕ) → AreUnreached out image unreached → (whole : Bool) → MatchBool whole (IsWhole unreached holes image file) (¬ IsWhole unreached holes image file)
      → ¬ IsWhole out holes image file → MatchBool whole (HasItsBlocks out holes image file) (¬ HasItsBlocks out holes image file)
  has_by holes file unreached u true is none = inr (record { unreached = unreached; are_unreached = u; whole = is })
  has_by holes file unreached u false broken none = λ saved. elim saved [
    | inl alone ↦ none alone
    | inr keeps ↦ broken (same_whole holes keeps.unreached unreached keeps.are_unreached u file keeps.whole)
  ]

-- a file that has its blocks is sound, and not left out
pub has_claimant : (out : List ℕ) (holes : List Bool) (image : List ℕ) (file : ℕ) → HasItsBlocks out holes image file → IsClaimant out image file
has_claimant out holes image file (inl alone) = alone.claimant
has_claimant out holes image file (inr keeps) = record { intact = keeps.whole.claimant.intact; told = λ there. keeps.whole.claimant.told (keeps.are_unreached.also file there) }

-- a file that is saved whole is such a file
pub saved_claimant : (out : List ℕ) (holes : List Bool) (fillers : Bool) (image : List ℕ) (file : ℕ) → IsSavedWhole out holes fillers image file → IsClaimant out image file
saved_claimant out holes fillers image file saved = has_claimant out holes image file saved.has

module _ (out : List ℕ) (holes : List Bool) (image : List ℕ) (file : ℕ) where
  -- where fillers do not count, a file with its blocks is saved whole
  pub saved_uncounted : (fillers : Bool) → fillers ≡ false → HasItsBlocks out holes image file → IsSavedWhole out holes fillers image file
  saved_uncounted fillers uncounted has = record { has = has; no_filler = λ counted. absurd (cc (counted, uncounted)) }

  -- where they count, whether it has none decides
  pub saved_counted : (fillers : Bool) → fillers ≡ true → HasItsBlocks out holes image file → (none : Bool) → MatchBool none (HasNoFiller image file) (¬ HasNoFiller image file)
      → MatchBool none (IsSavedWhole out holes fillers image file) (¬ IsSavedWhole out holes fillers image file)
  saved_counted fillers counted has true none = record { has = has; no_filler = λ is. none }
  saved_counted fillers counted has false some = λ saved. some (saved.no_filler counted)
