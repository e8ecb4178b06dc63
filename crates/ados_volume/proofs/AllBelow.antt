-- Everything below a directory: all keys whose parents lead up to it, each after its own directory.
use Rattle.ados_volume.proofs.Common.{AreBelow, Below, Contains, Contains-append_cases, Contains-append_left, Contains-append_right, Contains-cases, Contains-here, Contains-later, Contains-nil, IsSome, IsUnder, List, None, Option, Proper, Some, Tree, [], ap, arith, entries, get_or, get_or_default, inl, inr, is_some, itself, length, map-append, parent_in, parent_of, placed, refl, subst, suc, sym, under_parent, zero, ℕ, ◌++◌, ◌+◌, ◌<◌, ◌∷◌, ◌≡◌, ◌≢◌}
use Rattle.ados_volume.specs.Below.AreBelow.{none, entry}
use Rattle.ados_volume.proofs.Loops.{no_loop}
use Rattle.ados_volume.proofs.GoingBelow.{keys_of}

-- the key of a list's entry is among the list's keys
pub key_among : (es : List Below) (i : ℕ) (e : Below) → i < length es → e ≡ get_or es i e → Contains (keys_of es) e.key
key_among [] i e inside is = absurd (omega arith)
key_among (x ∷ xs) zero e inside is = subst (λ (y : Below). Contains (keys_of (x ∷ xs)) y.key) (sym is) (Contains-here x.key (keys_of xs))
key_among (x ∷ xs) (suc i) e inside is = Contains-later x.key (keys_of xs) e.key (key_among xs i e (omega arith) is)

-- it is an entry of a directory that is the top or below it
abbrev pub StandsUnder : Tree → ℕ → ℕ → Type 0
StandsUnder t top key = (dir : ℕ) × (parent_of t key ≡ Some dir) × IsUnder t top dir

module _ (t : Tree) (proper : Proper t) where
  keys_entry : (above : Option ℕ) (key : ℕ) (inner others : List Below) → keys_of (placed above key ∷ (inner ++ others)) ≡ key ∷ (keys_of inner ++ keys_of others)
  keys_entry above key inner others = ap (λ (ks : List ℕ). key ∷ ks) (map-append (λ e. e.key) inner others)

  -- the entries of the directory are among them
  pub has_entries : (above : Option ℕ) (at : ℕ) (keys : List ℕ) (es : List Below) (x : ℕ) → AreBelow t above at keys es → Contains keys x → Contains (keys_of es) x
  has_entries above at keys es x none c = absurd (Contains-nil x c)
  has_entries above at keys es x (entry {key = key} {keys = others} {inner = inner} {others = rest} i o) c =
      subst (λ (ks : List ℕ). Contains ks x) (sym (keys_entry above key inner rest)) (elim (Contains-cases key others x c) [
        | inl same ↦ subst (Contains (key ∷ (keys_of inner ++ keys_of rest))) same (Contains-here key (keys_of inner ++ keys_of rest))
        | inr later ↦ Contains-later key (keys_of inner ++ keys_of rest) x (Contains-append_right (keys_of inner) (keys_of rest) x (has_entries above (length inner + suc at) others rest x o later))
      ])

  -- the entries of each of them are among them
  pub closed : (above : Option ℕ) (at : ℕ) (keys : List ℕ) (es : List Below) (dir x : ℕ) → AreBelow t above at keys es → Contains (keys_of es) dir → Contains (entries t dir) x → Contains (keys_of es) x
  closed above at keys es dir x none c d = absurd (Contains-nil dir c)
  closed above at keys es dir x (entry {key = key} {keys = others} {inner = inner} {others = rest} i o) c d =
      subst (λ (ks : List ℕ). Contains ks x) (sym (keys_entry above key inner rest)) (Contains-later key (keys_of inner ++ keys_of rest) x
      (elim (Contains-cases key (keys_of inner ++ keys_of rest) dir (subst (λ (ks : List ℕ). Contains ks dir) (keys_entry above key inner rest) c)) [
        | inl same ↦ Contains-append_left (keys_of inner) (keys_of rest) x (has_entries (Some at) (suc at) (entries t key) inner x i (subst (λ (k : ℕ). Contains (entries t k) x) (sym same) d))
        | inr later ↦ elim (Contains-append_cases (keys_of inner) (keys_of rest) dir later) [
          | inl in_it ↦ Contains-append_left (keys_of inner) (keys_of rest) x (closed (Some at) (suc at) (entries t key) inner dir x i in_it d)
          | inr behind ↦ Contains-append_right (keys_of inner) (keys_of rest) x (closed above (length inner + suc at) others rest dir x o behind d)
        ]
      ]))

  -- each of them is an entry of a directory at or below the top, if the first ones are
  all_held : (top : ℕ) (above : Option ℕ) (at : ℕ) (keys : List ℕ) (es : List Below) (x : ℕ) → AreBelow t above at keys es → ((k : ℕ) → Contains keys k → StandsUnder t top k) → Contains (keys_of es) x → StandsUnder t top x
  all_held top above at keys es x none h c = absurd (Contains-nil x c)
  all_held top above at keys es x (entry {key = key} {keys = others} {inner = inner} {others = rest} i o) h c =
      let here = h key (Contains-here key others) in
      elim (Contains-cases key (keys_of inner ++ keys_of rest) x (subst (λ (ks : List ℕ). Contains ks x) (keys_entry above key inner rest) c)) [
        | inl same ↦ subst (StandsUnder t top) same here
        | inr later ↦ elim (Contains-append_cases (keys_of inner) (keys_of rest) x later) [
          | inl in_it ↦ all_held top (Some at) (suc at) (entries t key) inner x i (λ k m. (key, (proper.listed key k).0 m, under_parent here.1 here.2)) in_it
          | inr behind ↦ all_held top above (length inner + suc at) others rest x o (λ k m. h k (Contains-later key others k m)) behind
        ]
      ]

  -- a key whose parents lead up to the top is the top or among them
  pub under_among : (top : ℕ) (es : List Below) (k : ℕ) → AreBelow t None 0 (entries t top) es → IsUnder t top k → Contains (top ∷ keys_of es) k
  under_among top es k b (itself same) = subst (Contains (top ∷ keys_of es)) (sym same) (Contains-here top (keys_of es))
  under_among top es k b (under_parent {dir = dir} p u) =
      let listed = (proper.listed dir k).1 p in
      elim (Contains-cases top (keys_of es) dir (under_among top es dir b u)) [
        | inl same ↦ Contains-later top (keys_of es) k (has_entries None 0 (entries t top) es k b (subst (λ (d : ℕ). Contains (entries t d) k) (sym same) listed))
        | inr m ↦ Contains-later top (keys_of es) k (closed None 0 (entries t top) es dir k b m listed)
      ]

  pub among_held : (top : ℕ) (es : List Below) (k : ℕ) → AreBelow t None 0 (entries t top) es → Contains (keys_of es) k → StandsUnder t top k
  among_held top es k b c = all_held top None 0 (entries t top) es k b (λ x m. (top, (proper.listed top x).0 m, itself refl)) c

  -- each entry below a directory has a node
  pub there_below : (top : ℕ) (es : List Below) → AreBelow t None 0 (entries t top) es → (i : ℕ) (d : Below) → i < length es → IsSome (t.nodes (get_or es i d).key)
  there_below top es b i d inside =
      let e = get_or es i d in
      let h = among_held top es e.key b (key_among es i e inside (get_or_default es i d e inside)) in
      ap is_some (parent_in (t.nodes e.key) h.0 h.1).1

  pub among_under : (top : ℕ) (es : List Below) (k : ℕ) → AreBelow t None 0 (entries t top) es → Contains (keys_of es) k → IsUnder t top k
  among_under top es k b c = let h = among_held top es k b c in under_parent h.1 h.2

  -- the top is not among them
  pub among_other : (top : ℕ) (es : List Below) (k : ℕ) → AreBelow t None 0 (entries t top) es → Contains (keys_of es) k → k ≢ top
  among_other top es k b c same =
      let h = among_held top es k b c in
      let n = parent_in (t.nodes k) h.0 h.1 in
      no_loop t proper k h.0 (proper.rooted k n.0 n.1) h.1 (subst (λ (a : ℕ). IsUnder t a h.0) (sym same) h.2)
