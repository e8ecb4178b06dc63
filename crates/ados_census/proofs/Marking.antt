-- Marks of blocks, set one by one.
use Rattle.std.proofs.Common.{◌≡◌, ◌≢◌, ℕ, zero, suc, ◌<◌, ◌⊎◌, inl, inr, Bool, true, false, List, [], ◌∷◌, length, get_or, set, sym, ap, ◌∙◌, arith}
use Rattle.std.proofs.lemmas.Bool.{cases_eq}
use Rattle.std.proofs.lemmas.List.{get_or-set_other, get_or-set_same}
unfoldable use Rattle.ados_census.specs.steps.Marks.{unmarked}
use Rattle.ados_census.specs.steps.Marks.{IsMarked}

module _ (marks : List Bool) (block : ℕ) (inside : block < length marks) where
  pub now_marked : get_or (set marks block true) block false ≡ true
  now_marked = get_or-set_same marks block true false inside

  pub others_same : (b : ℕ) → b ≢ block → get_or (set marks block true) b false ≡ get_or marks b false
  others_same b other = get_or-set_other marks block b true false other

  pub still_marked : (b : ℕ) → IsMarked marks b → IsMarked (set marks block true) b
  still_marked b is = elim (cases_eq b block) [
    | inl e ↦ ap (λ (c : ℕ). get_or (set marks block true) c false) e ∙ now_marked
    | inr e ↦ others_same b e ∙ is
  ]

  pub marked_before : (b : ℕ) → IsMarked (set marks block true) b → IsMarked marks b ⊎ (b ≡ block)
  marked_before b is = elim (cases_eq b block) [
    | inl e ↦ inr e
    | inr e ↦ inl (sym (others_same b e) ∙ is)
  ]

-- a mark is set
pub fewer_unmarked : (marks : List Bool) (block : ℕ) → block < length marks → get_or marks block false ≡ false → unmarked (set marks block true) < unmarked marks
unfolding unmarked
fewer_unmarked [] block l e = absurd (omega (arith, l))
fewer_unmarked (true ∷ marks) zero l e = absurd (cc e)
fewer_unmarked (false ∷ marks) zero l e = omega arith
fewer_unmarked (true ∷ marks) (suc block) l e = fewer_unmarked marks block (omega (arith, l)) e
fewer_unmarked (false ∷ marks) (suc block) l e = omega (arith, fewer_unmarked marks block (omega (arith, l)) e)
