-- A tree with other nodes, but with the same parents, lists and names in lists.
use Rattle.ados_change.proofs.Common.{◌≡◌, ◌≢◌, ℕ, ◌≤◌, ◌==◌, List, map, filter, slice_index_or, AllPairs, Contains, Option, Some, sym, ap, ◌∙◌, subst, arith, Contains-get_or, Date3, upper, slot, IsName, IsComment, Node, Tree, Proper, IsRoot, LeadsToRoot, root, entries, name_of, parent_of, at_root, by_parent, in_slot, refl}
use Rattle.ados_change.proofs.Entering.{filter_same}

-- the order of slots, if the names in the list are the same
pub rising_alike : (names names' : ℕ → List ℕ) (keys : List ℕ) → ((k : ℕ) → Contains keys k → names' k ≡ names k) → AllPairs (λ j k. slot (names j) ≤ slot (names k)) keys → AllPairs (λ j k. slot (names' j) ≤ slot (names' k)) keys
rising_alike names names' keys same h i j e l m =
    let first = ap slot (same (slice_index_or keys i e) (Contains-get_or keys i e (omega arith))) in
    let second = ap slot (same (slice_index_or keys j e) (Contains-get_or keys j e m)) in
    omega (arith, first, second, h i j e l m)

-- a path to the root of a tree, in a tree with the same parents
pub leads_alike : (t u : Tree) → root u ≡ root t → ((k : ℕ) → parent_of u k ≡ parent_of t k) → (k : ℕ) → LeadsToRoot t k → LeadsToRoot u k
leads_alike t u same parents k (at_root e) = at_root (e ∙ sym same)
leads_alike t u same parents k (by_parent {dir = dir} p q) = by_parent (parents k ∙ p) (leads_alike t u same parents dir q)

module _ (t : Tree) (nodes : ℕ → Option Node) (d : Date3) where
  abbrev u : Tree
  u = record t { nodes = nodes; disk_date = d }

  module _ (parents : (k : ℕ) → parent_of u k ≡ parent_of t k) (lists : (dir : ℕ) → entries u dir ≡ entries t dir) (names : (dir k : ℕ) → Contains (entries t dir) k → name_of u k ≡ name_of t k) where
    pub slots_alike : (dir s : ℕ) → in_slot u dir s ≡ in_slot t dir s
    slots_alike dir s =
        ap (filter (λ k. slot (name_of u k) == s)) (lists dir)
        ∙ filter_same (λ k. slot (name_of u k) == s) (λ k. slot (name_of t k) == s) (entries t dir) (λ k c. ap (λ (name : List ℕ). slot name == s) (names dir k c))

    was_listed : (dir k : ℕ) → Contains (entries u dir) k → Contains (entries t dir) k
    was_listed dir k c = subst (λ (keys : List ℕ). Contains keys k) (lists dir) c

    -- it is proper if its nodes were nodes and are valid
    pub proper_alike : Proper t → (a : Node) × (nodes (root t) ≡ Some a) × IsRoot a → ((k : ℕ) (a : Node) → nodes k ≡ Some a → (b : Node) × (t.nodes k ≡ Some b))
        → ((k : ℕ) (a : Node) → nodes k ≡ Some a → IsName a.name) → ((k : ℕ) (a : Node) → nodes k ≡ Some a → IsComment a.comment) → Proper u
    proper_alike p root_node was name comment = record {
      size = p.size;
      inside = λ k a e. let w = was k a e in p.inside k w.0 w.1;
      root_node = root_node;
      listed = λ dir k. (
        λ c. parents k ∙ (p.listed dir k).0 (was_listed dir k c),
        λ e. subst (λ (keys : List ℕ). Contains keys k) (sym (lists dir)) ((p.listed dir k).1 (sym (parents k) ∙ e)),
      );
      once = λ dir. subst (AllPairs (λ j k. j ≢ k)) (sym (lists dir)) (p.once dir);
      unlike = λ dir j k c m same.
          let b = was_listed dir j c in
          let n = was_listed dir k m in
          p.unlike dir j k b n (ap (map upper) (sym (names dir j b)) ∙ same ∙ ap (map upper) (names dir k n));
      rising = λ dir. subst (AllPairs (λ j k. slot (name_of u j) ≤ slot (name_of u k))) (sym (lists dir)) (rising_alike (name_of t) (name_of u) (entries t dir) (names dir) (p.rising dir));
      rooted = λ k a e. let w = was k a e in leads_alike t u refl parents k (p.rooted k w.0 w.1);
      name = name;
      comment = comment;
    }
