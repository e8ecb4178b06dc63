-- Entries sorted by their ranks.
use Rattle.adf_export.proofs.Common.{◌≡◌, ℕ, suc, ◌+◌, ◌<◌, List, [], ◌∷◌, ◌++◌, Contains, length, get_or, take, drop, drop-cons, take-append-drop, refl, sym, ap, ap₂, ◌∙◌, subst, if◌then◌else◌, Once, Once-before, Contains-here, Contains-later, Tree, name_of, ListOrder, compared, comes_before, sorted, weight_of, IsRank, AreRanked, rank_cmp, upper, Rank, placed}
use Rattle.std.specs.Ordering.{is_lt, match_ordering, nat_cmp, ordering_then}
use Rattle.std.specs.Cmp.Lexicographic.{slice_cmp}
use Rattle.std.specs.declared.cmp.Ordering.{Ordering}
use Rattle.std.specs.declared.cmp.Ordering.TheVariants.{Less, Equal, Greater}
use Rattle.std.specs.FinMap.{nat_cmp-IsAntisymmetric}
use Rattle.std.specs.BTreeMap.{insert_entry}
use Rattle.std.specs.Prelude.{map}
use Rattle.std.proofs.lemmas.List.Sums.{fold_more}
use Rattle.adf_export.proofs.Sorting.{sorted_has}

then_equal : (a b : Ordering) → ordering_then a b ≡ Equal → b ≡ Equal
then_equal Less b e = cc e
then_equal Equal b e = e
then_equal Greater b e = cc e

module _ (t : Tree) (order : ListOrder) where
  same_key : (j k : ℕ) → compared t order j k ≡ Equal → j ≡ k
  same_key j k e =
      nat_cmp-IsAntisymmetric j k
      (then_equal (slice_cmp nat_cmp (map upper (name_of t j)) (map upper (name_of t k))) (nat_cmp j k)
      (then_equal (slice_cmp nat_cmp (weight_of t order j) (weight_of t order k))
      (ordering_then (slice_cmp nat_cmp (map upper (name_of t j)) (map upper (name_of t k))) (nat_cmp j k)) e))

  -- ranks compare as their entries
  ranks_compare : (j k : ℕ) (a b : Rank) → IsRank t order j a → IsRank t order k b → rank_cmp a b ≡ compared t order j k
  ranks_compare j k a b is at =
      ap₂ (λ (x y : List ℕ). ordering_then (slice_cmp nat_cmp x y) (ordering_then (slice_cmp nat_cmp a.name.items b.name.items) (nat_cmp a.key b.key))) is.weight at.weight
      ∙ ap₂ (λ (x y : List ℕ). ordering_then (slice_cmp nat_cmp (weight_of t order j) (weight_of t order k)) (ordering_then (slice_cmp nat_cmp x y) (nat_cmp a.key b.key))) is.name at.name
      ∙ ap₂ (λ (x y : ℕ). ordering_then (slice_cmp nat_cmp (weight_of t order j) (weight_of t order k)) (ordering_then (slice_cmp nat_cmp (map upper (name_of t j)) (map upper (name_of t k))) (nat_cmp x y))) is.own at.own

  more_go : (key k : ℕ) (ks rest : List ℕ) (rank : Rank) (e : Rank × ℕ) (es later : List (Rank × ℕ)) (o : Ordering) → (o ≡ Equal → ⊥) → IsRank t order key rank
      → AreRanked t order (k ∷ ks) (e ∷ es) → AreRanked t order rest later
      → AreRanked t order (if is_lt o then key ∷ k ∷ ks else k ∷ rest) (match_ordering o ((rank, key) ∷ e ∷ es) ((e.0, key) ∷ es) (e ∷ later))
  more_go key k ks rest rank e es later Less other is are behind = (is, refl, are)
  more_go key k ks rest rank e es later Equal other is are behind = absurd (other refl)
  more_go key k ks rest rank e es later Greater other is are behind = (are.0, are.1, behind)

  -- one more entry is placed
  pub ranked_more : (key : ℕ) (ks : List ℕ) (rank : Rank) (es : List (Rank × ℕ)) → ¬ Contains ks key → IsRank t order key rank → AreRanked t order ks es
      → AreRanked t order (placed (comes_before t order) key ks) (insert_entry rank_cmp es rank key)
  unfolding placed
  ranked_more key [] rank [] absent is are = (is, refl, tt)
  ranked_more key [] rank (e ∷ es) absent is are = absurd are
  ranked_more key (k ∷ ks) rank [] absent is are = absurd are
  ranked_more key (k ∷ ks) rank (e ∷ es) absent is are =
      let o = compared t order key k in
      let later = insert_entry rank_cmp es rank key in
      let rest = placed (comes_before t order) key ks in
      let behind = ranked_more key ks rank es (λ m. absent (Contains-later k ks key m)) is are.2 in
      let other : o ≡ Equal → ⊥ = λ equal. absent (subst (Contains (k ∷ ks)) (sym (same_key key k equal)) (Contains-here k ks)) in
      subst (λ (x : Ordering). AreRanked t order (if is_lt o then key ∷ k ∷ ks else k ∷ rest) (match_ordering x ((rank, key) ∷ e ∷ es) ((e.0, key) ∷ es) (e ∷ later)))
      (sym (ranks_compare key k rank e.0 is are.0))
      (more_go key k ks rest rank e es later o other is are behind)

  -- their keys in order
  pub ranked_keys : (ks : List ℕ) (es : List (Rank × ℕ)) → AreRanked t order ks es → map (λ e. e.1) es ≡ ks
  ranked_keys [] [] are = refl
  ranked_keys [] (e ∷ es) are = absurd are
  ranked_keys (k ∷ ks) [] are = absurd are
  ranked_keys (k ∷ ks) (e ∷ es) are = ap₂ (λ (x : ℕ) (xs : List ℕ). x ∷ xs) are.1 (ranked_keys ks es are.2)

  pub ranked_none : (es : List (Rank × ℕ)) → es ≡ [] → AreRanked t order (sorted (comes_before t order) []) es
  unfolding sorted
  ranked_none es none = subst (AreRanked t order []) (sym none) tt

  -- the next of these keys is placed
  pub ranked_on : (keys : List ℕ) (i d : ℕ) (rank : Rank) (es : List (Rank × ℕ)) → i < length keys → Once keys → IsRank t order (get_or keys i d) rank
      → AreRanked t order (sorted (comes_before t order) (take i keys)) es
      → AreRanked t order (sorted (comes_before t order) (take (i + 1) keys)) (insert_entry rank_cmp es rank (get_or keys i d))
  unfolding sorted
  ranked_on keys i d rank es inside once is are =
      let key = get_or keys i d in
      let split : keys ≡ take i keys ++ key ∷ drop (suc i) keys = sym (take-append-drop i keys) ∙ ap (λ (ks : List ℕ). take i keys ++ ks) (drop-cons keys i d inside) in
      let absent = λ (m : Contains (sorted (comes_before t order) (take i keys)) key). Once-before (take i keys) key (drop (suc i) keys) (subst Once split once) (sorted_has (comes_before t order) (take i keys) key m) in
      subst (λ (ks : List ℕ). AreRanked t order ks (insert_entry rank_cmp es rank key))
      (sym (fold_more (λ (done : List ℕ) (k : ℕ). placed (comes_before t order) k done) [] keys i d inside))
      (ranked_more key (sorted (comes_before t order) (take i keys)) rank es absent is are)
