-- Each change of entries turns a proper tree into a proper one.
use Rattle.ados_change.proofs.Common.{◌≡◌, ◌≢◌, ℕ, ◌<◌, inl, inr, List, [], map, Contains, Some, None, option_map, option_and_then, refl, sym, ap, ◌∙◌, subst, arith, All-nil, Date3, upper, IsName, IsComment, Contains-nil, Content, Node, Tree, Proper, LeadsToRoot, entries, entries_in, name_of, parent_of, name_in, IsUnused, Directory, at_root, by_parent, with_node, changed, entered, stamped, new_node, content_in, parent_in, CanMake, CanRename, IsDirectoryKey, IsEmpty, IsUnder}
use Rattle.ados_change.specs.Conditions.IsUnder.{itself, by_parent as under_parent}
use Rattle.ados_change.specs.Laws.{MadeIsProper, RemovedIsProper, RenamedIsProper}
use Rattle.ados_change.proofs.Changed.{parent_field, nodes_here, nodes_other, was, Was, relisted}
use Rattle.ados_change.proofs.Loose.{Loose, l, kept, left_is, unlisted_is_loose, was_listed, names_same, parents_same, entries_other, not_own_parent, node_kept, still_node, unused_is_loose, changed_is_loose, without_is_proper, entered_is_proper, stamped_is_proper, entries_with}

-- the node of a directory
pub record IsDirectoryNode (t : Tree) (key : ℕ) : Type 0 where
  pub node : Node
  pub keys : List ℕ
  pub at : t.nodes key ≡ Some node
  pub content : node.content ≡ Directory keys

pub directory_at : (t : Tree) (key : ℕ) → IsDirectoryKey t key → IsDirectoryNode t key
directory_at t key (keys, e) = let n = content_in (t.nodes key) (Directory keys) e in record { node = n.0; keys = keys; at = n.1; content = n.2 }

-- a new node can be the loose one
module _ (t : Tree) (moment : Date3) (dir key : ℕ) (name : List ℕ) (content : Content) (proper : Proper t) (can : CanMake t dir name) (fresh : IsUnused t key) (empty : IsEmpty content) where
  abbrev new : Node
  new = new_node moment dir name content

  abbrev pub begun : Tree
  begun = with_node key (Some new) t

  no_entries : entries_in (Some content) ≡ entries t key
  no_entries = let none = fresh.no_node in rw none empty

  pub begun_is_loose : Loose begun key
  begun_is_loose =
      changed_is_loose t key (unused_is_loose t key proper fresh.no_node) (Some new) no_entries (λ a e.
      let same : new ≡ a = cc e in
      (fresh.inside, subst (λ (n : Node). IsName n.name) same can.valid, subst (λ (n : Node). IsComment n.comment) same (record { short = omega arith; bytes = All-nil (λ c. c < 256) })))

  pub dir_not_key : dir ≢ key
  dir_not_key e = let d = directory_at t dir can.directory in let at = ap t.nodes (sym e) ∙ d.at in cc (at, fresh.no_node)

  -- no path to the root goes through the new node
  leads_beside : (k : ℕ) → k ≢ key → LeadsToRoot t k → LeadsToRoot begun k
  leads_beside k n (at_root e) = at_root e
  leads_beside k n (by_parent {dir = d} p rest) =
      let parent : parent_of begun k ≡ Some d = ap (option_and_then (λ node. node.parent)) (nodes_other key (Some new) t k n) ∙ p in
      let beside : d ≢ key = λ e.
      let child : Contains (entries t key) k = subst (λ (i : ℕ). Contains (entries t i) k) e ((proper.listed d k).1 p) in
      Contains-nil k (subst (λ (keys : List ℕ). Contains keys k) (sym no_entries ∙ empty) child) in
      by_parent parent (leads_beside d beside rest)

  pub entered_proper : Proper (entered moment dir key begun)
  entered_proper =
      let d = directory_at t dir can.directory in
      let here : begun.nodes key ≡ Some new = nodes_here key (Some new) t in
      let named : name_of begun key ≡ name = ap name_in here in
      entered_is_proper begun key dir begun_is_loose d.node (nodes_other key (Some new) t dir dir_not_key ∙ d.at) (ap (option_and_then (λ node. node.parent)) here) (leads_beside dir dir_not_key (proper.rooted dir d.node d.at))
      (λ k m same.
      let was : Contains (entries t dir) k = subst (λ (keys : List ℕ). Contains keys k) (entries_with t key (unused_is_loose t key proper fresh.no_node) (Some new) no_entries dir) m in
      let other : k ≢ key = ((begun_is_loose.listed dir k).0 m).0 in
      can.new_name k was (ap (map upper) (sym (ap name_in (nodes_other key (Some new) t k other))) ∙ same ∙ ap (map upper) named)) moment

pub made_is_proper : MadeIsProper
made_is_proper t moment dir key name content proper can fresh empty = stamped_is_proper moment (entered moment dir key (begun t moment dir key name content proper can fresh empty)) (entered_proper t moment dir key name content proper can fresh empty)

-- ---- an entry is removed

pub removed_is_proper : RemovedIsProper
removed_is_proper t moment key proper can =
    let gone = l t proper key can.dir can.listed moment in
    let loose = unlisted_is_loose t proper key can.dir can.listed moment in
    let none : [] ≡ entries gone key = sym (entries_other t proper key can.dir can.listed moment key (λ e. not_own_parent t proper key can.dir can.listed moment (sym e)) ∙ can.empty) in
    subst (λ (u : Tree). Proper (stamped moment (with_node key None u))) (sym (left_is t proper key can.dir can.listed moment))
    (stamped_is_proper moment (with_node key None gone) (without_is_proper gone key loose None none refl (sym none)))

-- ---- an entry moves

module _ (t : Tree) (moment : Date3) (key dir : ℕ) (name : List ℕ) (proper : Proper t) (can : CanRename t key dir name) where
  abbrev pub named : Node → Node
  named node = record node { name = name; parent = Some dir }

  -- the tree without the entry in its directory's list
  abbrev pub out : Tree
  out = l t proper key can.from can.listed moment

  pub out_is_loose : Loose out key
  out_is_loose = unlisted_is_loose t proper key can.from can.listed moment

  abbrev pub entry : (a : Node) × (t.nodes key ≡ Some a) × (a.parent ≡ Some can.from)
  entry = parent_in (t.nodes key) can.from can.listed

  pub entry_out : out.nodes key ≡ Some entry.0
  entry_out = node_kept t proper key can.from can.listed moment ∙ entry.1

  -- the same with the new name and parent
  abbrev pub moved : Tree
  moved = changed key named out

  pub moved_here : moved.nodes key ≡ Some (named entry.0)
  moved_here = nodes_here key (option_map named (out.nodes key)) out ∙ ap (option_map named) entry_out

  pub moved_other : (k : ℕ) → k ≢ key → moved.nodes k ≡ out.nodes k
  moved_other k n = nodes_other key (option_map named (out.nodes key)) out k n

  pub same_entries : entries_in (option_map (λ node. node.content) (option_map named (out.nodes key))) ≡ entries out key
  same_entries = let at = entry_out in rw at refl

  pub moved_is_loose : Loose moved key
  moved_is_loose = changed_is_loose out key out_is_loose (option_map named (out.nodes key)) same_entries (λ a e.
      let same : named entry.0 ≡ a = cc (sym (ap (option_map named) entry_out) ∙ e) in
      (proper.inside key entry.0 entry.1, subst (λ (n : Node). IsName n.name) same can.valid, subst (λ (n : Node). IsComment n.comment) same (proper.comment key entry.0 entry.1)))

  pub dir_is_other : dir ≢ key
  dir_is_other e = can.not_under (itself e)

  leads_apart : (k : ℕ) → ¬ IsUnder t key k → LeadsToRoot t k → LeadsToRoot moved k
  leads_apart k n (at_root e) = at_root e
  leads_apart k n (by_parent {dir = d} p rest) = by_parent (ap parent_field (moved_other k (λ e. n (itself e))) ∙ parents_same t proper key can.from can.listed moment k ∙ p) (leads_apart d (λ u. n (under_parent p u)) rest)

  pub into : (b : Node) × (moved.nodes dir ≡ Some b)
  into =
      let d = directory_at t dir can.directory in
      let b = still_node t proper key can.from can.listed moment dir d.node d.at in
      (b.0, moved_other dir dir_is_other ∙ b.1)

  -- the target directory is still a directory
  pub into_directory : (b : Node) × (keys : List ℕ) × (moved.nodes dir ≡ Some b) × (b.content ≡ Directory keys)
  into_directory = go (was (relisted moment kept_list) can.from t dir into.0 (sym (moved_other dir dir_is_other) ∙ into.1))
    where
      kept_list : List ℕ
      kept_list = kept t proper key can.from can.listed moment

      go : Was (relisted moment kept_list) can.from t dir into.0 → (b : Node) × (keys : List ℕ) × (moved.nodes dir ≡ Some b) × (b.content ≡ Directory keys)
      go w = elim (w.how) [
        | inl h ↦
            let d = directory_at t dir can.directory in
            let same : w.old ≡ d.node = cc (w.at, d.at) in
            (into.0, d.keys, into.1, ap (λ (n : Node). n.content) (h.1 ∙ same) ∙ d.content)
        | inr h ↦ (into.0, kept_list, into.1, ap (λ (n : Node). n.content) h.1)
      ]

  pub moved_entered_proper : Proper (entered moment dir key moved)
  moved_entered_proper =
      let d = directory_at t dir can.directory in
      let named_so : name_of moved key ≡ name = ap name_in moved_here in
      entered_is_proper moved key dir moved_is_loose into.0 into.1 (ap (option_and_then (λ node. node.parent)) moved_here) (leads_apart dir can.not_under (proper.rooted dir d.node d.at))
      (λ k m same.
      let was = was_listed t proper key can.from can.listed moment dir k (subst (λ (keys : List ℕ). Contains keys k) (entries_with out key out_is_loose (option_map named (out.nodes key)) same_entries dir) m) in
      can.new_name k was.0 was.1 (ap (map upper) (sym (ap name_in (moved_other k was.1) ∙ names_same t proper key can.from can.listed moment k)) ∙ same ∙ ap (map upper) named_so)) moment

pub renamed_is_proper : RenamedIsProper
renamed_is_proper t moment key dir name proper can =
    subst (λ (u : Tree). Proper (stamped moment (entered moment dir key (changed key (λ node. record node { name = name; parent = Some dir }) u)))) (sym (left_is t proper key can.from can.listed moment))
    (stamped_is_proper moment (entered moment dir key (moved t moment key dir name proper can)) (moved_entered_proper t moment key dir name proper can))
