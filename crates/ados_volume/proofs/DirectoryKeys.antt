-- The progress of a walk over one directory.
use Rattle.ados_volume.proofs.Common.{Contains, Contains-append_right, Contains-cases, Contains-here, Entry, List, Once, Once-before, Proper, Some, Tree, [], ap, append_assoc, arith, behind, behind-found, entries, entries_after, entry_node, first-entry, first_left, inl, inr, itself, length, length-append, length-once, parent_of, same_Some, subst, sym, ℕ, ◌++◌, ◌<◌, ◌∙◌, ◌∷◌, ◌≡◌, ◌≢◌, ◌≤◌}
use Rattle.ados_volume.proofs.Loops.{no_loop}

-- these keys of a directory were listed, and those after the last of them are left
pub record IsListed (t : Tree) (dir last : ℕ) (keys : List ℕ) : Type 0 where
  pub left : List ℕ
  pub all : entries t dir ≡ keys ++ left
  pub behind_last : entries_after t dir last ≡ Some left

module _ (t : Tree) (proper : Proper t) (dir : ℕ) where
  -- an entry is not its own directory
  own_entry : (key : ℕ) → Contains (entries t dir) key → dir ≢ key
  own_entry key c same =
      let n = entry_node t proper dir key c in
      let up : parent_of t key ≡ Some dir = rw n.1 n.2 in
      no_loop t proper key dir (proper.rooted key n.0 n.1) up (itself same)

  -- a directory has at most as many entries as the volume has blocks
  pub entries_few : length (entries t dir) ≤ t.blocks
  entries_few = length-once (entries t dir) t.blocks (proper.once dir) (λ x c. let n = entry_node t proper dir x c in (proper.inside x n.0 n.1).1)

  module _ (last key : ℕ) (keys : List ℕ) (l : IsListed t dir last keys) (next : Entry key ≡ first_left (entries_after t dir last)) where
    rest : List ℕ
    rest = (first-entry (entries_after t dir last) key (sym next)).0

    left_is : l.left ≡ key ∷ rest
    unfolding rest
    left_is = same_Some l.left (key ∷ rest) (sym l.behind_last ∙ (first-entry (entries_after t dir last) key (sym next)).1)

    all_is : entries t dir ≡ keys ++ key ∷ rest
    all_is = l.all ∙ ap (λ (xs : List ℕ). keys ++ xs) left_is

    pub listed_entry : Contains (entries t dir) key
    listed_entry = subst (λ (xs : List ℕ). Contains xs key) (sym all_is) (Contains-append_right keys (key ∷ rest) key (Contains-here key rest))

    not_before : ¬ Contains (dir ∷ keys) key
    not_before c = elim (Contains-cases dir keys key c) [
      | inl same ↦ own_entry key listed_entry same
      | inr m ↦ Once-before keys key rest (subst Once all_is (proper.once dir)) m
    ]

    pub listing_goes_on : IsListed t dir key (keys ++ key ∷ [])
    listing_goes_on = record {
      left = rest;
      all = all_is ∙ sym (append_assoc keys (key ∷ []) rest);
      behind_last = ap (λ (xs : List ℕ). behind key (dir ∷ xs)) all_is ∙ behind-found (dir ∷ keys) key rest not_before;
    }

    pub listing_small : length keys < t.blocks
    listing_small = let few = entries_few in omega (arith, few, ap length all_is, length-append keys (key ∷ rest))
