-- The places of a block that is asked for, where a search finds it.
use Rattle.adf_where.proofs.Common.{◌≡◌, ℕ, ◌∙◌, ◌<◌, ◌≤◌, inl, inr, List, length, get_or, get_or_default, Contains, Option, Some, None, Result, Ok, Err, Vec, Global, sym, ap, subst, arith, AllZip-long, AreAllPlaces, Place}
use Rattle.std.specs.Option.{MatchOption}
use Rattle.std.specs.Result.{MatchResult, result_ok}
use Rattle.std.specs.Ordering.{nat_cmp}
use Rattle.std.specs.List.Sorted.{IsBinarySearchResult, IsStrictlyIncreasing}
use Rattle.std.proofs.lemmas.Bool.{cases_lt}
use Rattle.std.proofs.lemmas.List.Kept.{AllPairs-from_increasing}
use Rattle.std.proofs.lemmas.List.Sorted.{searched}
use Rattle.adf_where.specs.declared.faulty.AskedBlocks.{AskedBlocks}
use Rattle.adf_where.specs.steps.Asked.{AreAsked}
use Rattle.adf_where.proofs.Zipped.{zipped_at}

-- what a search found, as an option
place_found : (xs : List ℕ) (x : ℕ) (r : Result ℕ ℕ) (o : Option ℕ) → o ≡ result_ok r
    → MatchResult r (λ i. (i < length xs) × (get_or xs i 0 ≡ x)) (λ i. (i ≤ length xs) × ((k : ℕ) → k < i → get_or xs k 0 < x) × ((k : ℕ) → i ≤ k → k < length xs → x < get_or xs k 0))
    → MatchOption o (¬ Contains xs x) (λ at. (at < length xs) × (get_or xs at 0 ≡ x))
place_found xs x (Ok i) o e h = subst (λ (o : Option ℕ). MatchOption o (¬ Contains xs x) (λ at. (at < length xs) × (get_or xs at 0 ≡ x))) (sym e) h
place_found xs x (Err i) o e h =
    subst (λ (o : Option ℕ). MatchOption o (¬ Contains xs x) (λ at. (at < length xs) × (get_or xs at 0 ≡ x))) (sym e)
    (λ c.
    let at : get_or xs c.0 0 ≡ x = get_or_default xs c.0 0 x c.1 ∙ c.2 in
    elim (cases_lt c.0 i) [
      | inl before ↦ absurd (omega (arith, h.1 c.0 before, at))
      | inr behind ↦ absurd (omega (arith, h.2 c.0 behind c.1, at))
    ])

-- strictly increasing blocks rise
rises : (asked : List ℕ) → IsStrictlyIncreasing asked → (i j : ℕ) → i ≤ j → j < length asked → get_or asked i 0 ≤ get_or asked j 0
rises asked up i j le l = elim (cases_lt i j) [
  | inl less ↦ omega (arith, AllPairs-from_increasing asked up i j 0 less l)
  | inr same ↦ (let e : i ≡ j = omega (arith, le, same) in omega (arith, ap (λ (k : ℕ). get_or asked k 0) e))
]

module _ (image blocks : List ℕ) (asked : AskedBlocks) (block : ℕ) (r : Result ℕ ℕ) (search : IsBinarySearchResult (λ y. nat_cmp y block) asked.asked.items r)
    (are : AreAsked image blocks asked) (named : Contains blocks block) where
  found : (o : Option ℕ) → o ≡ result_ok r → MatchOption o (¬ Contains asked.asked.items block) (λ at. (at < length asked.asked.items) × (get_or asked.asked.items at 0 ≡ block))
  found o e = place_found asked.asked.items block r o e (searched asked.asked.items block r search (rises asked.asked.items are.increasing))

  is_asked : Contains asked.asked.items block
  is_asked = subst (Contains asked.asked.items) named.2 (are.all named.0 block named.1)

  same_length : length asked.asked.items ≡ length asked.lists.items
  same_length = sym (AllZip-long (λ (b : ℕ) (places : Vec Place Global). AreAllPlaces image b places.items) asked.asked.items asked.lists.items are.places)

  -- it is found, with its list
  pub is_found : (i : ℕ) → r ≡ Err i → ⊥
  is_found i e = found None (sym (ap result_ok e)) is_asked

  pub has_list : (at : ℕ) → r ≡ Ok at → length asked.lists.items ≤ at → ⊥
  has_list at e over =
      let there = found (Some at) (sym (ap result_ok e)) in
      omega (arith, there.0, same_length, over)

  pub places_there : (at : ℕ) (places : Vec Place Global) → r ≡ Ok at → places ≡ get_or asked.lists.items at places → AreAllPlaces image block places.items
  places_there at places e is =
      let there = found (Some at) (sym (ap result_ok e)) in
      subst (λ (b : ℕ). AreAllPlaces image b places.items) there.1
      (subst (λ (v : Vec Place Global). AreAllPlaces image (get_or asked.asked.items at 0) v.items) (sym is)
      (zipped_at (λ (b : ℕ) (them : Vec Place Global). AreAllPlaces image b them.items) asked.asked.items asked.lists.items at 0 places are.places there.0))
