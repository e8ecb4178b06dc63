-- The steps of a path one by one, and its last name.
use Rattle.ados_name.proofs.Common.{◌≡◌, ℕ, ◌+◌, ◌-◌, ◌<◌, ◌==◌, true, false, not, List, [], ◌∷◌, length, take, drop, Option, refl, sym, ap, ◌∙◌, inl, inr, arith, before_first, after_first, list_any, slice_split, drop_of_length-le, take-length, eqb-true, true≢false, All-from_get_or, prefix_len-le-length, fails_before_first, length-drop, get_or-drop, list_any_none, IsLastByte, is_slash, is_separator, Step, Step.ToParent, Step.ToChild, steps_of_parts, steps_along, last_name, front}
use Rattle.std.proofs.Math.Nat.{eq-or-lt_of_le}
use Rattle.std.proofs.lemmas.List.Splits.{length-slice_split, slice_split_first, slice_split_none}
use Rattle.ados_name.proofs.SeparatorLemmas.{behind, suffix-found, behind-le, none-behind}

-- the step of a component
abbrev pub taken : List ℕ → Step
taken [] = ToParent
taken (c ∷ cs) = ToChild (c ∷ cs)

taken-parent : (component : List ℕ) → (length component == 0) ≡ true → taken component ≡ ToParent
taken-parent [] empty = refl
taken-parent (c ∷ cs) empty = absurd (let none = eqb-true _ 0 empty in omega (arith, none))

taken-child : (component : List ℕ) → 0 < length component → taken component ≡ ToChild component
taken-child [] some = absurd (omega arith)
taken-child (c ∷ cs) some = refl

nonempty : (xs : List ℕ) → (length xs == 0) ≡ false → 0 < length xs
nonempty [] some = absurd (true≢false some)
nonempty (x ∷ xs) some = omega arith

steps_of_parts-more : (component : List ℕ) (parts : List (List ℕ)) → 0 < length parts
    → steps_of_parts (component ∷ parts) ≡ taken component ∷ steps_of_parts parts
steps_of_parts-more [] [] more = absurd (omega arith)
steps_of_parts-more [] (part ∷ rest) more = refl
steps_of_parts-more (c ∷ cs) parts more = refl

steps_of_parts-one : (component : List ℕ) → 0 < length component → steps_of_parts (component ∷ []) ≡ taken component ∷ []
steps_of_parts-one [] some = absurd (omega arith)
steps_of_parts-one (c ∷ cs) some = refl

-- the component is the last one, or a slash follows it
steps_along-first : (walked : List ℕ) → 0 < length walked
    → steps_along walked ≡ taken (before_first is_slash walked) ∷ steps_along (after_first is_slash walked)
unfolding steps_along
steps_along-first walked some =
    elim (eq-or-lt_of_le (prefix_len-le-length (λ x. not (is_slash x)) walked)) [
      | inl end ↦
          let plain = All-from_get_or (λ x. is_slash x ≡ false) walked 0 (λ k inside. fails_before_first is_slash walked k 0 (rw end inside)) in
          let all : before_first is_slash walked ≡ walked = rw end (take-length walked) in
          let nothing : after_first is_slash walked ≡ [] = drop_of_length-le walked (omega (arith, end)) in
          rw (slice_split_none is_slash walked plain, all, nothing) (steps_of_parts-one walked some)
      | inr inside ↦
          rw (slice_split_first is_slash walked 0 inside)
          (steps_of_parts-more _ (slice_split is_slash (after_first is_slash walked)) (rw length-slice_split (omega arith)))
    ]

-- the last name follows the last separator
module _ (path : List ℕ) (r : Option ℕ) (last : IsLastByte is_separator path r) where
  pub drop-behind : drop (behind r) path ≡ last_name path
  unfolding last_name
  drop-behind = ap (λ n. drop n path) (sym (suffix-found is_separator path r last))

  pub take-behind : take (behind r) path ≡ front path
  unfolding front
  take-behind =
      let inside = behind-le is_separator path r last in
      let rest : length (last_name path) ≡ length path - behind r = rw (← drop-behind) (length-drop (behind r) path) in
      ap (λ n. take n path) (omega (arith, inside, rest))

  pub last_name-plain : list_any is_separator (last_name path) ≡ false
  last_name-plain = rw (← drop-behind) (list_any_none is_separator (drop (behind r) path)
      (All-from_get_or (λ c. is_separator c ≡ false) (drop (behind r) path) 0
      (λ k inside. rw get_or-drop (none-behind is_separator path r last (behind r + k) (omega arith) (let total = length-drop (behind r) path in omega arith)))))

-- the result of `next` while steps are left
module _ (walked component rest : List ℕ) (some : (length walked == 0) ≡ false) (is : component ≡ before_first is_slash walked) (behind_it : rest ≡ after_first is_slash walked) where
  next-step : steps_along walked ≡ taken component ∷ steps_along rest
  next-step = rw (is, behind_it) (steps_along-first walked (nonempty walked some))

  pub next-parent : (length component == 0) ≡ true → steps_along walked ≡ ToParent ∷ steps_along rest
  next-parent empty = next-step ∙ ap (λ step. step ∷ steps_along rest) (taken-parent component empty)

  pub next-child : (length component == 0) ≡ false → steps_along walked ≡ ToChild component ∷ steps_along rest
  next-child some_bytes = next-step ∙ ap (λ step. step ∷ steps_along rest) (taken-child component (nonempty component some_bytes))

pub next-end : (walked : List ℕ) → (length walked == 0) ≡ true → steps_along walked ≡ []
unfolding steps_along
next-end [] empty = refl
next-end (c ∷ cs) empty = absurd (let none = eqb-true _ 0 empty in omega (arith, none))
