-- The faults of a block, from those of the image.
use Rattle.adf_where.proofs.Common.{◌≡◌, ℕ, zero, suc, ◌+◌, ◌<◌, ◌≤◌, inl, inr, Bool, true, false, cond, ltb, leb, List, [], ◌∷◌, ◌++◌, length, get_or, take, drop, All, AllPairs, Contains, refl, sym, ap, ap₂, ◌∙◌, subst, arith, append-nil, eqb-true, ◌==◌, AllWithin, between, IsNonDecreasingBy, IsPartitionPoint, get_or-drop, get_or-take, length-drop, length-take, StandsBefore, fault_of, VolumeFault, AreFaultsAt, AreFound}
use Rattle.std.specs.List.{filter}
use Rattle.std.specs.Prelude.{MatchBool, not}
use Rattle.adf_where.specs.FaultyMap.{ShowsAt}
use Rattle.std.proofs.lemmas.Bool.{cases_lt, eq-eqb, leb-false, leb-true, ltb-false, ltb-true, ne_eqb}
use Rattle.std.proofs.lemmas.List.Edits.{get_or-between, length-between, split_between}
use Rattle.std.proofs.lemmas.List.Elements.{All-filter, All-head, All-tail, filter-append, filter_passes}
use Rattle.std.proofs.lemmas.List.Kept.{AllPairs-filter}
use Rattle.ados_model.specs.declared.fault.FaultKind.TheVariants.{DuplicateName}
use Rattle.ados_model.specs.Faults.{Shows}

-- an element that passes a test stays in a list
module _ {X : Type 0} (p : X → Bool) (x : X) (passes : p x ≡ true) where
  kept : (xs : List X) → Contains xs x → Contains (filter p xs) x
  kept [] m = m
  kept (y ∷ ys) (zero, l, e) = rw (subst (λ (z : X). p z ≡ true) (sym e) passes) (0, omega arith, e)
  kept (y ∷ ys) (suc k, l, e) = go (p y) (kept ys (k, omega arith, e))
    where
      go : (b : Bool) → Contains (filter p ys) x → Contains (cond b (y ∷ filter p ys) (filter p ys)) x
      go true m = (suc m.0, omega (arith, m.1), m.2)
      go false m = m

-- ---- faults in order: those of a block stand together

module _ {X : Type 0} (p : X → Bool) where
  abbrev passes : X → Type 0
  passes x = p x ≡ true

  abbrev fails : X → Type 0
  fails x = p x ≡ false

  filter_all : (xs : List X) → All passes xs → filter p xs ≡ xs
  filter_all [] all = refl
  filter_all (x ∷ xs) all = rw (All-head passes x xs all) (ap (λ (l : List X). x ∷ l) (filter_all xs (All-tail passes x xs all)))

  filter_none : (xs : List X) → All fails xs → filter p xs ≡ []
  filter_none [] none = refl
  filter_none (x ∷ xs) none = rw (All-head fails x xs none) (filter_none xs (All-tail fails x xs none))

  -- what passes stands from one place to another
  filter_between : (xs : List X) (i j : ℕ) → i ≤ j → j ≤ length xs → AllWithin fails xs 0 i → AllWithin passes xs i j → AllWithin fails xs j (length xs) → filter p xs ≡ between i j xs
  filter_between xs i j le within before there after =
      let none : filter p (take i xs) ≡ [] = filter_none (take i xs) (λ k d l.
      let low : k < i = omega (arith, l, length-take i xs) in
      subst fails (sym (get_or-take i xs k d low)) (before k d (omega arith) low)) in
      let all : filter p (between i j xs) ≡ between i j xs = filter_all (between i j xs) (λ k d l.
      let low : i + k < j = omega (arith, l, length-between xs i j within) in
      subst passes (sym (get_or-between xs i j k d low)) (there (i + k) d (omega arith) low)) in
      let behind : filter p (drop j xs) ≡ [] = filter_none (drop j xs) (λ k d l.
      subst fails (sym (get_or-drop j xs k d)) (after (j + k) d (omega arith) (omega (arith, l, length-drop j xs)))) in
      ap (λ (l : List X). filter p l) (split_between xs i j le) ∙ filter-append p (take i xs) (between i j xs ++ drop j xs)
      ∙ ap₂ (λ (a b : List X). a ++ b) none (filter-append p (between i j xs) (drop j xs) ∙ ap₂ (λ (a b : List X). a ++ b) all behind ∙ append-nil (between i j xs))

abbrev of_block : ℕ → VolumeFault → Bool
of_block block fault = fault.block == block

pub faults_there : (image : List ℕ) (block : ℕ) (found faults : List VolumeFault) → AreFound image found → faults ≡ filter (λ fault. fault.block == block) found
    → AreFaultsAt image block faults
faults_there image block found faults h is = subst (AreFaultsAt image block) (sym is) (record {
  in_order = AllPairs-filter StandsBefore (of_block block) found h.lists.in_order;
  shown = λ k d l. record {
    at = eqb-true (get_or (filter (of_block block) found) k d).block block (filter_passes (of_block block) found k d l);
    shown = All-filter (of_block block) (λ fault. Shows image fault.kind fault.block) found h.lists.shown k d l;
  };
  all = λ kind shows. kept (of_block block) (fault_of kind block) (eq-eqb block block refl) found (h.all kind block shows);
})

-- whether there are any says whether the block shows one
pub shown_there : (image : List ℕ) (block : ℕ) (faults : List VolumeFault) (none : Bool) → AreFaultsAt image block faults → none ≡ (length faults == 0)
    → MatchBool (not none) (ShowsAt image block) (¬ ShowsAt image block)
shown_there image block [] none are is =
    subst (λ (b : Bool). MatchBool (not b) (ShowsAt image block) (¬ ShowsAt image block)) (sym is)
    (λ shows. absurd (omega (arith, (are.all shows.0 shows.1).1)))
shown_there image block (fault ∷ faults) none are is =
    let here = are.shown 0 fault (omega arith) in
    subst (λ (b : Bool). MatchBool (not b) (ShowsAt image block) (¬ ShowsAt image block)) (sym (is ∙ ne_eqb (suc (length faults)) 0 (λ e. omega (arith, e))))
    (fault.kind, subst (Shows image fault.kind) here.at here.shown)

module _ (faults : List VolumeFault) (up : AllPairs StandsBefore faults) where
  -- the blocks of the faults do not fall
  pub blocks_rise : IsNonDecreasingBy (λ (fault : VolumeFault). fault.block) faults
  blocks_rise i j d le l = elim (cases_lt i j) [
    | inl less ↦ elim (up i j d less l) [
      | inl lower ↦ omega (arith, lower)
      | inr same ↦ omega (arith, same.0)
    ]
    | inr none ↦ (let e : i ≡ j = omega (arith, le, none) in omega (arith, ap (λ (k : ℕ). (get_or faults k d).block) e))
  ]

  module _ (block first end : ℕ) (a : IsPartitionPoint (λ (fault : VolumeFault). ltb fault.block block ≡ true) (λ (fault : VolumeFault). ltb fault.block block ≡ false) faults first)
      (b : IsPartitionPoint (λ (fault : VolumeFault). leb fault.block block ≡ true) (λ (fault : VolumeFault). leb fault.block block ≡ false) faults end)
      (within : first ≤ length faults) where
    pub first_before_end : first ≤ end
    first_before_end = elim (cases_lt end first) [
      | inl less ↦
          (let d : VolumeFault = fault_of DuplicateName 0 in
          let low = ltb-true (get_or faults end d).block block (a.0 end d (omega arith) less) in
          let high = leb-false (get_or faults end d).block block (b.1 end d (omega arith) (omega (arith, less, within))) in
          absurd (omega (arith, low, high)))
      | inr le ↦ le
    ]

    pub faults_between : end ≤ length faults → between first end faults ≡ filter (of_block block) faults
    faults_between inside =
        sym (filter_between (of_block block) faults first end first_before_end inside
        (λ k d from to.
        let low = ltb-true (get_or faults k d).block block (a.0 k d from to) in
        ne_eqb (get_or faults k d).block block (λ e. omega (arith, low, e)))
        (λ k d from to.
        let high = ltb-false (get_or faults k d).block block (a.1 k d from (omega (arith, to, inside))) in
        let low = leb-true (get_or faults k d).block block (b.0 k d (omega arith) to) in
        eq-eqb (get_or faults k d).block block (omega (arith, high, low)))
        (λ k d from to.
        let high = leb-false (get_or faults k d).block block (b.1 k d from to) in
        ne_eqb (get_or faults k d).block block (λ e. omega (arith, high, e))))
