-- The tree is proper.
use Rattle.ados_model.proofs.Common.{◌≡◌, ◌≢◌, ℕ, ◌<◌, ◌≤◌, ◌⊎◌, inl, inr, List, [], ◌∷◌, length, Contains, AllPairs, Some, None, refl, sym, arith, codes, Format, slot, IsName, IsComment, Node, Tree, Proper, LeadsToRoot, entries, name_of, parent_of, at_root, by_parent, small, letters, hello, nodes, tree}
use Rattle.ados_model.proofs.KeyLists.{Contains-nil, Contains-here, Contains-cases}
use Rattle.ados_model.proofs.SmallBelow.{a_name, a_comment}
use Rattle.ados_model.proofs.SmallRows.{each_row, by_rows}

abbrev rows : List (ℕ × Node)
rows = (8, small) ∷ (2, letters) ∷ (3, hello) ∷ []

-- a fact about the three nodes
pub each : (P : ℕ → Node → Type 0) → P 8 small → P 2 letters → P 3 hello → (key : ℕ) (node : Node) → nodes key ≡ Some node → P key node
each P a b c = each_row P rows (a, (b, (c, tt)))

-- a fact about the three keys, and about each other number
pub by_key : (P : ℕ → Type 0) → P 8 → P 2 → P 3 → ((key : ℕ) → nodes key ≡ None → P key) → (key : ℕ) → P key
by_key P a b c = by_rows P rows (a, (b, (c, tt)))

pub only : (x key : ℕ) → Contains (x ∷ []) key → key ≡ x
only x key h = elim (Contains-cases x [] key h) [ inl e ↦ sym e | inr m ↦ absurd (Contains-nil key m) ]

module _ (format : Format) where
  abbrev t : Tree
  t = tree format

  -- the directory is in the root, the file in the directory
  abbrev Link : ℕ → ℕ → Type 0
  Link dir key = ((dir ≡ 8) × (key ≡ 2)) ⊎ ((dir ≡ 2) × (key ≡ 3))

  contained : (dir key : ℕ) → Contains (entries t dir) key → Link dir key
  contained = by_key (λ dir. (key : ℕ) → Contains (entries t dir) key → Link dir key)
      (λ key h. inl (refl, only 2 key h))
      (λ key h. inr (refl, only 3 key h))
      (λ key h. absurd (Contains-nil key h))
      (λ dir none key h. absurd (Contains-nil key (rw none at h)))

  contains : (dir key : ℕ) → Link dir key → Contains (entries t dir) key
  contains dir key (inl (d, k)) = rw (d, k) (Contains-here 2 [])
  contains dir key (inr (d, k)) = rw (d, k) (Contains-here 3 [])

  has_parent : (dir key : ℕ) → Link dir key → parent_of t key ≡ Some dir
  has_parent dir key (inl (d, k)) = rw (d, k) refl
  has_parent dir key (inr (d, k)) = rw (d, k) refl

  parent_has : (key dir : ℕ) → parent_of t key ≡ Some dir → Link dir key
  parent_has = by_key (λ key. (dir : ℕ) → parent_of t key ≡ Some dir → Link dir key)
      (λ dir e. absurd (cc e))
      (λ dir e. inl (cc e, refl))
      (λ dir e. inr (cc e, refl))
      (λ key none dir e. absurd (cc (rw none at e)))

  same : (dir j k : ℕ) → Link dir j → Link dir k → j ≡ k
  same dir j k h m = grind arith

  -- no directory has two entries
  short : (dir : ℕ) → length (entries t dir) ≤ 1
  short = by_key (λ dir. length (entries t dir) ≤ 1) (omega arith) (omega arith) (omega arith) (λ dir none. rw none (omega arith))

  no_pairs : (R : ℕ → ℕ → Type 0) (dir : ℕ) → AllPairs R (entries t dir)
  no_pairs R dir i j d l m = absurd (omega (arith, l, m, short dir))

  pub proper : Proper t
  proper = record {
    size = omega arith;
    inside = each (λ key node. (2 ≤ key) × (key < 16)) (omega arith) (omega arith) (omega arith);
    root_node = (small, refl, record { no_parent = refl; no_protection = refl; no_comment = refl; keys = 2 ∷ []; directory = refl });
    listed = λ dir key. (λ h. has_parent dir key (contained dir key h), λ e. contains dir key (parent_has key dir e));
    once = no_pairs (λ j k. j ≢ k);
    unlike = λ dir j k h m like. same dir j k (contained dir j h) (contained dir k m);
    rising = no_pairs (λ j k. slot (name_of t j) ≤ slot (name_of t k));
    rooted = each (λ key node. LeadsToRoot t key) (at_root refl) (by_parent refl (at_root refl)) (by_parent refl (by_parent refl (at_root refl)));
    name = each (λ key node. IsName node.name)
        (a_name (codes "Small") (omega arith) (omega arith) refl) (a_name (codes "Letters") (omega arith) (omega arith) refl) (a_name (codes "hello") (omega arith) (omega arith) refl);
    comment = each (λ key node. IsComment node.comment)
        (a_comment [] (omega arith) refl) (a_comment [] (omega arith) refl) (a_comment (codes "A greeting") (omega arith) refl);
  }
