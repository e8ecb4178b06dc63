-- Consequences for the nodes of a tree, and for their blocks.
use Rattle.ados_model.proofs.Common.{◌≡◌, ◌≢◌, ℕ, ◌⊎◌, inl, inr, ◌==◌, List, slice_index_or, All, Contains, Option, Some, None, IsSome, option_map, option_and_then, refl, arith, mod-lt, AllByRecursion, false≢true, recursion_from_All, All-filter, Contains-get_or, IsInside, slot, hash, Content, Node, Tree, Proper, LeadsToRoot, root, content_at, entries_in, entries, name_of, Directory, File, at_root, by_parent, in_slot}
use Rattle.ados_model.proofs.Lists.{joined, by_slot}

pub some_in : (o : Option Node) → IsSome o → (a : Node) × (o ≡ Some a)
some_in None h = absurd (false≢true h)
some_in (Some a) h = (a, refl)

pub parent_in : (o : Option Node) (dir : ℕ) → option_and_then (λ node. node.parent) o ≡ Some dir → (a : Node) × (o ≡ Some a) × (a.parent ≡ Some dir)
parent_in None dir e = absurd (cc e)
parent_in (Some a) dir e = (a, refl, e)

pub content_in : (o : Option Node) (c : Content) → option_map (λ node. node.content) o ≡ Some c → (a : Node) × (o ≡ Some a) × (a.content ≡ c)
content_in None c e = absurd (cc e)
content_in (Some a) c e = (a, refl, cc e)

-- a node with an entry is a directory
pub directory_in : (c : Option Content) (key : ℕ) → Contains (entries_in c) key → (keys : List ℕ) × (c ≡ Some (Directory keys))
directory_in None key (k, l, e) = absurd (omega (arith, l))
directory_in (Some (Directory keys)) key h = (keys, refl)
directory_in (Some (File bytes)) key (k, l, e) = absurd (omega (arith, l))

module _ (t : Tree) (proper : Proper t) where
  -- a node is the root, or has a parent
  pub root_or_parent : (key : ℕ) (a : Node) → t.nodes key ≡ Some a → (key ≡ root t) ⊎ ((dir : ℕ) × (a.parent ≡ Some dir))
  root_or_parent key a e = go (proper.rooted key a e)
    where
      go : LeadsToRoot t key → (key ≡ root t) ⊎ ((dir : ℕ) × (a.parent ≡ Some dir))
      go (at_root r) = inl r
      go (by_parent {dir = dir} p q) =
          let found = parent_in (t.nodes key) dir p in
          let same : found.0 ≡ a = cc (found.1, e) in
          inr (dir, rw same at found.2)

  -- an entry of a directory is a node with that parent
  pub entry_node : (dir key : ℕ) → Contains (entries t dir) key → (a : Node) × (t.nodes key ≡ Some a) × (a.parent ≡ Some dir)
  entry_node dir key h = parent_in (t.nodes key) dir ((proper.listed dir key).0 h)

  -- a node is in its parent's list
  pub parent_lists : (dir key : ℕ) (a : Node) → t.nodes key ≡ Some a → a.parent ≡ Some dir → Contains (entries t dir) key
  parent_lists dir key a e p = (proper.listed dir key).1 (rw e p)

  -- the directory of an entry
  pub directory_node : (dir key : ℕ) → Contains (entries t dir) key → (a : Node) × (keys : List ℕ) × (t.nodes dir ≡ Some a) × (a.content ≡ Directory keys)
  directory_node dir key h =
      let c = directory_in (content_at t dir) key h in
      let n = content_in (t.nodes dir) (Directory c.0) c.1 in
      (n.0, c.0, n.1, n.2)

  pub entries_of_directory : (dir : ℕ) (a : Node) (keys : List ℕ) → t.nodes dir ≡ Some a → a.content ≡ Directory keys → entries t dir ≡ keys
  entries_of_directory dir a keys e c = rw (e, c)

  -- no entry is block 0
  pub entry_not_zero : (dir : ℕ) → All (λ key. key ≢ 0) (entries t dir)
  entry_not_zero dir k d l z =
      let n = entry_node dir (slice_index_or (entries t dir) k d) (Contains-get_or (entries t dir) k d l) in
      let i : IsInside t.blocks (slice_index_or (entries t dir) k d) = proper.inside _ n.0 n.1 in
      omega (arith, i.0, z)

  pub in_slot_not_zero : (dir s : ℕ) → AllByRecursion (λ key. key ≢ 0) (in_slot t dir s)
  in_slot_not_zero dir s =
      recursion_from_All (λ key. key ≢ 0) (in_slot t dir s) (All-filter (λ key. slot (name_of t key) == s) (λ key. key ≢ 0) (entries t dir) (entry_not_zero dir))

  -- a directory's entries are the concatenation of its slots
  pub entries_by_slot : (dir : ℕ) → entries t dir ≡ joined (in_slot t dir) 72
  entries_by_slot dir = by_slot (λ key. slot (name_of t key)) 72 (entries t dir) (proper.rising dir) (λ key. mod-lt (hash (name_of t key)) (omega arith))
