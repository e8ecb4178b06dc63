-- Headers that are left out, one by one.
use Rattle.ados_salvage.proofs.KnownCommon.{◌≡◌, ℕ, zero, suc, ◌+◌, ◌<◌, inl, inr, Bool, true, false, MatchBool, All, List, [], ◌∷◌, ◌++◌, length, get_or, Contains, get_or-set_same, get_or-set_other, length-set, take, sym, ap, ◌∙◌, subst, arith, mark_at, set, cases_eq, Contains-append_cases, Contains-append_left, Contains-append_right, take_more, AreMarked}

-- no block is one of none
pub none_contained : (block : ℕ) → ¬ Contains [] block
none_contained block (k, l, e) = absurd (omega (arith, l))

-- a list of one block has only this one
pub only_one : (y block : ℕ) → Contains (y ∷ []) block → block ≡ y
only_one y block (zero, l, e) = sym e
only_one y block (suc k, l, e) = absurd (omega (arith, l))

-- one more header
pub marked_more : (marks : List Bool) (headers : List ℕ) (block : ℕ) → block < length marks → AreMarked marks headers → AreMarked (set marks block true) (headers ++ block ∷ [])
marked_more marks headers block inside h b = elim (cases_eq b block) [
  | inl e ↦
      subst (λ (mark : Bool). MatchBool mark (Contains (headers ++ block ∷ []) b) (¬ Contains (headers ++ block ∷ []) b))
      (sym (ap (mark_at (set marks block true)) e ∙ get_or-set_same marks block true false inside))
      (Contains-append_right headers (block ∷ []) b (0, omega arith, sym e))
  | inr e ↦
      subst (λ (mark : Bool). MatchBool mark (Contains (headers ++ block ∷ []) b) (¬ Contains (headers ++ block ∷ []) b))
      (sym (get_or-set_other marks block b true false e))
      (go (mark_at marks b) e (h b))
]
  where
    go : (mark : Bool) → ¬ (b ≡ block) → MatchBool mark (Contains headers b) (¬ Contains headers b) → MatchBool mark (Contains (headers ++ block ∷ []) b) (¬ Contains (headers ++ block ∷ []) b)
    go true e there = Contains-append_left headers (block ∷ []) b there
    go false e none = λ m. elim (Contains-append_cases headers (block ∷ []) b m) [
      | inl before ↦ none before
      | inr last ↦ e (only_one block b last)
    ]

-- the next of these headers
pub marked_next : (marks : List Bool) (headers : List ℕ) (i n d : ℕ) → length marks ≡ n → All (λ header. header < n) headers → AreMarked marks (take i headers) → i < length headers
    → (length (set marks (get_or headers i d) true) ≡ n) × AreMarked (set marks (get_or headers i d) true) (take (i + 1) headers)
marked_next marks headers i n d size inside marked l = (
  length-set marks (get_or headers i d) true ∙ size,
  subst (AreMarked (set marks (get_or headers i d) true)) (sym (take_more headers i d l)) (marked_more marks (take i headers) (get_or headers i d) (omega (arith, size, inside i d l)) marked),
)
