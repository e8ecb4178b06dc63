-- The tree with other bytes in a file.
use Rattle.ados_change.proofs.Common.{◌≡◌, ◌≢◌, ℕ, inl, inr, List, Option, Some, option_map, refl, sym, ap, ◌∙◌, eq-eqb, ne_eqb, cases_eq, Content, Node, Tree, entries, entries_in, name_of, parent_of, name_in, Directory, changed, IsName, IsComment, Proper, root, File, in_slot}
use Rattle.ados_change.proofs.SameLists.{proper_alike, slots_alike}
use Rattle.ados_change.proofs.Changed.{changed_keeps, each_keeps, parent_field, was, was_with}

-- the node with these bytes
abbrev pub holding : List ℕ → Node → Node
holding bytes node = record node { content = File bytes }

-- the tree with these bytes in a file
abbrev pub refilled : ℕ → List ℕ → Tree → Tree
refilled file bytes t = changed file (holding bytes) t

module _ (t : Tree) (file : ℕ) (node : Node) (bytes bytes' : List ℕ) (found : t.nodes file ≡ Some node) (is_file : node.content ≡ File bytes) where
  abbrev u : Tree
  u = refilled file bytes' t

  pub here : u.nodes file ≡ Some (holding bytes' node)
  here = rw (eq-eqb file file refl) (rw found refl)

  pub there : (k : ℕ) → k ≢ file → u.nodes k ≡ t.nodes k
  there k n = rw (ne_eqb k file n) refl

  pub names : (k : ℕ) → name_of u k ≡ name_of t k
  names = changed_keeps name_in (holding bytes') file t (each_keeps name_in (holding bytes') (λ a. refl))

  pub parents : (k : ℕ) → parent_of u k ≡ parent_of t k
  parents = changed_keeps parent_field (holding bytes') file t (each_keeps parent_field (holding bytes') (λ a. refl))

  abbrev entries_of : Option Node → List ℕ
  entries_of o = entries_in (option_map (λ node. node.content) o)

  pub entries_same : (dir : ℕ) → entries u dir ≡ entries t dir
  entries_same dir = elim (cases_eq dir file) [
    | inl same ↦ ap (entries u) same ∙ ap entries_of here ∙ sym (ap entries_of found ∙ ap (λ (c : Content). entries_in (Some c)) is_file) ∙ ap (entries t) (sym same)
    | inr other ↦ ap entries_of (there dir other)
  ]

  pub slots_same : (dir r : ℕ) → in_slot u dir r ≡ in_slot t dir r
  slots_same = slots_alike t u.nodes t.disk_date parents entries_same (λ dir k m. names k)

  module _ (proper : Proper t) where
    pub file_not_root : file ≢ root t
    file_not_root same =
        let m = proper.root_node in
        let one : node ≡ m.0 = cc (found, ap t.nodes same ∙ m.1) in
        let kind : Content.File bytes ≡ Directory m.2.keys = sym is_file ∙ ap (λ (a : Node). a.content) one ∙ m.2.directory in
        cc kind

    pub proper_after : Proper u
    proper_after =
        proper_alike t u.nodes t.disk_date parents entries_same (λ dir k m. names k) proper (let m = proper.root_node in (m.0, there (root t) (λ e. file_not_root (sym e)) ∙ m.1, m.2)) (λ k a e. let w = was (holding bytes') file t k a e in (w.old, w.at))
        (λ k a e. let w = was (holding bytes') file t k a e in was_with (λ n. IsName n.name) (holding bytes') file t k a (λ n h. h) w (proper.name k w.old w.at)) (λ k a e. let w = was (holding bytes') file t k a e in was_with (λ n. IsComment n.comment) (holding bytes') file t k a (λ n h. h) w (proper.comment k w.old w.at))
