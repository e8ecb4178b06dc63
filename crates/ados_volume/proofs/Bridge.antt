-- In an image that represents a tree, the hash chains of its directories are lawful.
use Rattle.std.proofs.lemmas.List.Kept.{AllPairs-filter}
use Rattle.ados_volume.proofs.Common.{Contains, Directory, Duty, IsEntryBlock, IsEntryNode, IsName, LawfulChains, LeadsToRoot, List, NAME_BYTE, Node, None, Some, Stands, Tree, ap, at_root, by_parent, entries, entry_at, get_or_default, in_slot, inside, key_serves, name_at, name_of, parent_of, root_is, slot, subst, sym, ℕ, ◌<◌, ◌==◌, ◌∙◌, ◌≡◌, ◌≢◌}
use Rattle.ados_model.proofs.NoFaults.{text_is}

module _ (image : List ℕ) (t : Tree) (s : Stands image t) where
  pub name_is : (key : ℕ) (node : Node) → t.nodes key ≡ Some node → name_at image key ≡ node.name
  name_is key node e = text_is image key NAME_BYTE node.name (s.nodes key node e).name

  pub name_valid : (key : ℕ) (node : Node) → t.nodes key ≡ Some node → IsName (name_at image key)
  name_valid key node e = subst IsName (sym (name_is key node e)) (s.proper.name key node e)

  -- no entry is its own directory
  no_own_parent : (key : ℕ) → LeadsToRoot t key → parent_of t key ≡ Some key → ⊥
  no_own_parent key (at_root r) p =
      let at : t.nodes key ≡ Some s.proper.root_node.0 = ap t.nodes r ∙ s.proper.root_node.1 in
      let none : parent_of t key ≡ None = rw at s.proper.root_node.2.no_parent in
      cc (none, p)
  no_own_parent key (by_parent {dir = dir} q rest) p =
      let same : dir ≡ key = cc (q, p) in
      no_own_parent dir rest (subst (λ (k : ℕ). parent_of t k ≡ Some k) (sym same) p)

  slot_entry : (dir r key : ℕ) → r < 72 → Contains (in_slot t dir r) key → IsEntryNode image t s dir r key
  slot_entry dir r key l c = entry_at image t s dir r c.0 key (record { within = c.1; here = get_or_default (in_slot t dir r) c.0 0 key c.1 ∙ c.2; holder = l })

  entry_block : (dir r key : ℕ) → IsEntryNode image t s dir r key → IsEntryBlock image dir key
  entry_block dir r key n = record {
    inside = inside image t s key Duty.Key (key_serves image t s key n.node n.at);
    not_root = λ e.
        let at : t.nodes key ≡ Some s.proper.root_node.0 = ap t.nodes (e ∙ root_is image t s) ∙ s.proper.root_node.1 in
        let same : n.node ≡ s.proper.root_node.0 = cc (n.at, at) in
        let none : n.node.parent ≡ None = ap (λ (a : Node). a.parent) same ∙ s.proper.root_node.2.no_parent in
        cc (none, n.parent);
    not_dir = λ e.
        let own : parent_of t key ≡ Some key = rw n.at (n.parent ∙ ap Some (sym e)) in
        no_own_parent key (s.proper.rooted key n.node n.at) own;
    name = name_valid key n.node n.at;
  }

  pub lawful_chains : (dir : ℕ) (node : Node) (keys : List ℕ) → t.nodes dir ≡ Some node → node.content ≡ Directory keys → LawfulChains image dir (in_slot t dir)
  lawful_chains dir node keys e c = record {
    inside = inside image t s dir Duty.Key (key_serves image t s dir node e);
    spelled = λ r l. s.chains dir node keys r e c l;
    once = λ r l. AllPairs-filter (λ a b. a ≢ b) (λ key. slot (name_of t key) == r) (entries t dir) (s.proper.once dir);
    entry = λ r key l m. entry_block dir r key (slot_entry dir r key l m);
    slotted = λ r key l m. let n = slot_entry dir r key l m in ap slot (name_is key n.node n.at) ∙ n.slotted;
  }
