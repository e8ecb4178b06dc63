-- The keys of everything below an object: which objects they are, and which is before which.
use Rattle.std.proofs.Common.{◌≡◌, ◌≢◌, ℕ, Some, inl, inr, List, ◌∷◌, ◌++◌, Contains, IsSome, is_some, sym, ap, subst}
use Rattle.adf_import.proofs.Common.{Contains-append_left, Contains-split, Contains-cases, Contains-here, Contains-later, Tree, Proper, parent_of, parent_in, IsUnder, itself, by_parent as under_parent, no_loop, StandsUnder, AreKeysBelow}

module _ (t : Tree) (proper : Proper t) (top : ℕ) (keys : List ℕ) (below : AreKeysBelow t top keys) where
  -- the directory of a key is the top, or before it
  pub own_before : (front : List ℕ) (key : ℕ) (back : List ℕ) → keys ≡ front ++ key ∷ back → (dir : ℕ) → parent_of t key ≡ Some dir → Contains (top ∷ front) dir
  own_before front key back split dir up =
      let own = below.in_order front key back split in
      let same : own.0 ≡ dir = cc (own.1, up) in
      subst (Contains (top ∷ front)) same own.2

  -- each is an entry of a directory at or below the top
  pub held_key : (key : ℕ) → Contains keys key → StandsUnder t top key
  held_key key c =
      let s = Contains-split keys key c in
      let own = below.in_order s.0 key s.1 s.2 in (
        own.0,
        own.1,
        elim (Contains-cases top s.0 own.0 own.2) [
          | inl same ↦ itself (sym same)
          | inr before ↦ below.below own.0 (subst (λ (ks : List ℕ). Contains ks own.0) (sym s.2) (Contains-append_left s.0 (key ∷ s.1) own.0 before))
        ],
      )

  pub key_there : (key : ℕ) → Contains keys key → IsSome (t.nodes key)
  key_there key c = let h = held_key key c in ap is_some (parent_in (t.nodes key) h.0 h.1).1

  -- the top is not among them
  pub not_top : (key : ℕ) → Contains keys key → key ≢ top
  not_top key c same =
      let h = held_key key c in
      let n = parent_in (t.nodes key) h.0 h.1 in
      no_loop t proper key h.0 (proper.rooted key n.0 n.1) h.1 (subst (λ (a : ℕ). IsUnder t a h.0) (sym same) h.2)

  -- a key whose parents lead up to the top is the top or among them
  pub among : (key : ℕ) → IsUnder t top key → Contains (top ∷ keys) key
  among key (itself same) = subst (Contains (top ∷ keys)) (sym same) (Contains-here top keys)
  among key (under_parent {dir = dir} up under) = Contains-later top keys key (below.all dir key (among dir under) ((proper.listed dir key).1 up))
