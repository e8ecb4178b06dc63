-- Marks of blocks, one block after the other.
use Rattle.std.proofs.Common.{◌≡◌, ℕ, ◌+◌, ◌<◌, ◌≤◌, ◌⊎◌, inl, inr, Bool, true, false, List, [], ◌∷◌, ◌++◌, length, get_or, take, Contains, sym, ap, ◌∙◌, subst, arith}
use Rattle.std.proofs.Math.ListN.{set}
use Rattle.std.proofs.lemmas.Bool.{cases_eq, cases_lt}
use Rattle.std.proofs.lemmas.List.{get_or-set_other, get_or-set_same, get_or_past, length-set, take_more}
use Rattle.std.proofs.lemmas.List.Elements.{Contains-append_left, Contains-push, Contains-push_cases}
use Rattle.adf_cli.specs.BadBlocks.{AreMarked, IsMarked}

-- nothing is contained in an empty list
none_there : (block : ℕ) → ¬ Contains [] block
none_there block c = omega (arith, c.1)

module _ (blocks : ℕ) (before : List Bool) where
  -- the marks have another length, and no block is marked yet
  pub marked_none : (marks : List Bool) → length marks ≡ blocks → ((k : ℕ) → k < blocks → k < length before → get_or marks k false ≡ get_or before k false)
      → ((k : ℕ) → length before ≤ k → k < blocks → get_or marks k false ≡ false) → AreMarked blocks before [] marks
  marked_none marks count same more = record {
    count = count;
    marked = λ block l. (λ is. inl (sym (at block l) ∙ is), λ h. was block l h);
  }
    where
      at : (block : ℕ) → block < blocks → get_or marks block false ≡ get_or before block false
      at block l = elim (cases_lt block (length before)) [
        | inl here ↦ same block l here
        | inr past ↦ more block past l ∙ sym (get_or_past before block false past)
      ]

      was : (block : ℕ) → block < blocks → IsMarked before block ⊎ Contains [] block → IsMarked marks block
      was block l (inl is) = at block l ∙ is
      was block l (inr there) = absurd (none_there block there)

  -- one more block is marked
  pub marked_more : (bad : List ℕ) (i : ℕ) → i < length bad → (one : ℕ) → one ≡ get_or bad i 0 → one < blocks → (marks : List Bool) → AreMarked blocks before (take i bad) marks
      → AreMarked blocks before (take (i + 1) bad) (set marks one true)
  marked_more bad i l one is inside marks old = record {
    count = length-set marks one true ∙ old.count;
    marked = λ block within. (λ now. there block (one_of block within now), λ was. is_now block within (here block was));
  }
    where
      grown : take (i + 1) bad ≡ take i bad ++ one ∷ []
      grown = take_more bad i 0 l ∙ ap (λ (y : ℕ). take i bad ++ y ∷ []) (sym is)

      there : (block : ℕ) → IsMarked before block ⊎ Contains (take i bad ++ one ∷ []) block → IsMarked before block ⊎ Contains (take (i + 1) bad) block
      there block h = subst (λ (them : List ℕ). IsMarked before block ⊎ Contains them block) (sym grown) h

      here : (block : ℕ) → IsMarked before block ⊎ Contains (take (i + 1) bad) block → IsMarked before block ⊎ Contains (take i bad ++ one ∷ []) block
      here block h = subst (λ (them : List ℕ). IsMarked before block ⊎ Contains them block) grown h

      added : (block : ℕ) → block ≡ one → IsMarked (set marks one true) block
      added block same = ap (λ (b : ℕ). get_or (set marks one true) b false) same ∙ get_or-set_same marks one true false (omega (arith, inside, old.count))

      wider : (block : ℕ) → IsMarked before block ⊎ Contains (take i bad) block → IsMarked before block ⊎ Contains (take i bad ++ one ∷ []) block
      wider block (inl was) = inl was
      wider block (inr listed) = inr (Contains-append_left (take i bad) (one ∷ []) block listed)

      one_of : (block : ℕ) → block < blocks → IsMarked (set marks one true) block → IsMarked before block ⊎ Contains (take i bad ++ one ∷ []) block
      one_of block within now = elim (cases_eq block one) [
        | inl same ↦ inr (subst (λ (b : ℕ). Contains (take i bad ++ one ∷ []) b) (sym same) (Contains-push (take i bad) one))
        | inr other ↦ wider block ((old.marked block within).0 (sym (get_or-set_other marks one block true false other) ∙ now))
      ]

      kept : (block : ℕ) → block < blocks → IsMarked marks block → IsMarked (set marks one true) block
      kept block within was = elim (cases_eq block one) [
        | inl same ↦ added block same
        | inr other ↦ get_or-set_other marks one block true false other ∙ was
      ]

      is_now : (block : ℕ) → block < blocks → IsMarked before block ⊎ Contains (take i bad ++ one ∷ []) block → IsMarked (set marks one true) block
      is_now block within (inl was) = kept block within ((old.marked block within).1 (inl was))
      is_now block within (inr listed) = elim (Contains-push_cases (take i bad) one block listed) [
        | inl earlier ↦ kept block within ((old.marked block within).1 (inr earlier))
        | inr same ↦ added block (sym same)
      ]
