-- Directories stay directories and entries stay entries while others are put and described.
use Rattle.std.proofs.Common.{◌≡◌, ◌≢◌, ℕ, inl, inr, List, [], Option, Some, None, IsSome, is_some, option_map, refl, sym, ap, ◌∙◌, subst}
use Rattle.adf_import.proofs.Common.{cases_eq, false≢true, Date3, slot, without_archive, Content, Node, Tree, Proper, content_at, entries, name_of, root, Directory, File, HasTree, Stands, changed, enter, made, rewritten, with_node, new_node, with_comment, with_protection, content_in, IsDirectoryKey, nodes_here, nodes_other, relisted, NewFile, described, filled, KeepsKeys}
use Rattle.adf_block.specs.Image.{root_key}
use Rattle.ados_model.specs.Change.{stamped}
use Rattle.adf_import.proofs.Filling.{IsEntry, after_change}

-- each node of a tree is a node of another with the same size, and each directory a directory
pub record Keeps (t u : Tree) : Type 0 where
  pub blocks : u.blocks ≡ t.blocks
  pub node : (k : ℕ) → IsSome (t.nodes k) → IsSome (u.nodes k)
  pub directory : (k : ℕ) → IsDirectoryKey t k → IsDirectoryKey u k

pub keeps_more : (t u v : Tree) → Keeps t u → Keeps u v → Keeps t v
keeps_more t u v g h = record { blocks = h.blocks ∙ g.blocks; node = λ k is. h.node k (g.node k is); directory = λ k is. h.directory k (g.directory k is) }

some_mapped : (f : Node → Node) (o : Option Node) → IsSome o → IsSome (option_map f o)
some_mapped f (Some node) there = refl
some_mapped f None there = there

-- a change of a node that turns no directory into a file
pub keeps_changed : (t : Tree) (key : ℕ) (f : Node → Node) → ((node : Node) → t.nodes key ≡ Some node → (keys : List ℕ) → node.content ≡ Directory keys → (after : List ℕ) × ((f node).content ≡ Directory after)) → Keeps t (changed key f t)
keeps_changed t key f kept = record {
  blocks = refl;
  node = λ k is. elim (cases_eq k key) [
    | inl e ↦ ap is_some (here k e) ∙ some_mapped f (t.nodes key) (subst (λ (i : ℕ). IsSome (t.nodes i)) e is)
    | inr n ↦ ap is_some (nodes_other key (option_map f (t.nodes key)) t k n) ∙ is
  ];
  directory = λ k d. elim (cases_eq k key) [
    | inl e ↦
        let n = content_in (t.nodes k) (Directory d.0) d.1 in
        let at : t.nodes key ≡ Some n.0 = ap t.nodes (sym e) ∙ n.1 in
        let after = kept n.0 at d.0 n.2 in
        (after.0, ap (option_map (λ (node : Node). node.content)) (here k e ∙ ap (option_map f) at) ∙ ap Some after.1)
    | inr n ↦ (d.0, ap (option_map (λ (node : Node). node.content)) (nodes_other key (option_map f (t.nodes key)) t k n) ∙ d.1)
  ];
}
  where
    here : (k : ℕ) → k ≡ key → (changed key f t).nodes k ≡ option_map f (t.nodes key)
    here k e = ap (changed key f t).nodes e ∙ nodes_here key (option_map f (t.nodes key)) t

-- a node under a new key
keeps_new : (t : Tree) (key : ℕ) (node : Node) → t.nodes key ≡ None → Keeps t (with_node key (Some node) t)
keeps_new t key node none = record {
  blocks = refl;
  node = λ k is. ap is_some (nodes_other key (Some node) t k (apart k is)) ∙ is;
  directory = λ k d.
      let n = content_in (t.nodes k) (Directory d.0) d.1 in
      (d.0, ap (option_map (λ (node : Node). node.content)) (nodes_other key (Some node) t k (apart k (ap is_some n.1))) ∙ d.1);
}
  where
    apart : (k : ℕ) → IsSome (t.nodes k) → k ≢ key
    apart k is e = false≢true (sym (ap is_some (ap t.nodes e ∙ none)) ∙ is)

-- the disk date makes no difference
keeps_stamped : (t u : Tree) (moment : Date3) → Keeps t u → Keeps t (stamped moment u)
keeps_stamped t u moment h = record { blocks = h.blocks; node = h.node; directory = h.directory }

-- ---- the metadata of an entry

keeps_edited : (t : Tree) (moment : Date3) (key : ℕ) (f : Node → Node) → ((node : Node) → (f node).content ≡ node.content) → Keeps t (stamped moment (changed key f t))
keeps_edited t moment key f same = keeps_stamped t (changed key f t) moment (keeps_changed t key f (λ node at keys is. (keys, same node ∙ is)))

pub keeps_described : (t : Tree) (moment : Date3) (key : ℕ) (file : NewFile) → Keeps t (described moment key file t)
keeps_described t moment key file =
    let bits = with_protection moment key file.protection.0 t in
    let text = with_comment moment key file.comment bits in
    keeps_more t bits (described moment key file t) (keeps_edited t moment key (λ (node : Node). record node { protection = file.protection.0 }) (λ node. refl))
    (keeps_more bits text (described moment key file t) (keeps_edited bits moment key (λ (node : Node). record node { comment = file.comment }) (λ node. refl))
    (keeps_edited text moment key (λ (node : Node). record node { date = file.date }) (λ node. refl)))

-- ---- files that are filled

pub keeps_filled : (t : Tree) (moment : Date3) (key : ℕ) (file : NewFile) (old : List ℕ) → content_at t key ≡ Some (File old) → Keeps t (filled moment key file t)
keeps_filled t moment key file old is =
    let wrote = rewritten moment key file.bytes.now t in
    keeps_more t wrote (filled moment key file t) (keeps_rewritten file.bytes.now) (keeps_described wrote moment key file)
  where
    no_directory : (node : Node) → t.nodes key ≡ Some node → (keys : List ℕ) → node.content ≡ Directory keys → ⊥
    no_directory node at keys holds =
        let clash : File old ≡ Directory keys = cc (is, ap (option_map (λ (node : Node). node.content)) at, holds) in
        cc clash

    keeps_rewritten : (bytes : List ℕ) → Keeps t (rewritten moment key bytes t)
    keeps_rewritten bytes =
        keeps_stamped t (changed key (λ node. record node { content = File bytes; date = moment; protection = without_archive node.protection }) t) moment
        (keeps_changed t key (λ node. record node { content = File bytes; date = moment; protection = without_archive node.protection }) (λ node at keys holds. absurd (no_directory node at keys holds)))

-- ---- entries that are made

module _ (t : Tree) (moment : Date3) (dir key : ℕ) (name : List ℕ) (content : Content) (directory : IsDirectoryKey t dir) (unused : t.nodes key ≡ None) where
  abbrev new : Node
  new = new_node moment dir name content

  abbrev with_new : Tree
  with_new = with_node key (Some new) t

  abbrev keys : List ℕ
  keys = enter (λ k. slot (name_of with_new k)) key (entries with_new dir)

  pub keeps_made : Keeps t (made moment dir key name content t)
  keeps_made =
      let listed_too = keeps_changed with_new dir (relisted moment keys) (λ node at old is. (keys, refl)) in
      keeps_stamped t (changed dir (relisted moment keys) with_new) moment (keeps_more t with_new (changed dir (relisted moment keys) with_new) (keeps_new t key new unused) listed_too)

  not_itself : key ≢ dir
  not_itself e =
      let n = content_in (t.nodes dir) (Directory directory.0) directory.1 in
      let none : t.nodes dir ≡ None = ap t.nodes (sym e) ∙ unused in
      cc (none, n.1)

  node_made : (made moment dir key name content t).nodes key ≡ Some new
  node_made = nodes_other dir (option_map (relisted moment keys) (with_new.nodes dir)) with_new key not_itself ∙ nodes_here key (Some new) t

  pub content_made : content_at (made moment dir key name content t) key ≡ Some content
  content_made = ap (option_map (λ (node : Node). node.content)) node_made

  -- the root has a node, so it is not the new entry
  pub entry_made : Proper t → IsEntry key (made moment dir key name content t)
  entry_made proper =
      let r = proper.root_node in
      (ap is_some node_made, λ e. let none : t.nodes (root t) ≡ None = ap t.nodes (sym e) ∙ unused in cc (none, r.1))

  pub keeps_added : (file : NewFile) → content ≡ File [] → Keeps t (filled moment key file (made moment dir key name content t))
  keeps_added file is =
      let made_tree = made moment dir key name content t in
      keeps_more t made_tree (filled moment key file made_tree) keeps_made (keeps_filled made_tree moment key file [] (content_made ∙ ap Some is))

-- ---- images

-- a fact about each tree is a fact about the image
pub keeps_keys : (old new : List ℕ) (change : Tree → Tree) → HasTree old → ((t : Tree) → Stands old t → Stands new (change t)) → ((t : Tree) → Stands old t → Keeps t (change t)) → KeepsKeys old new
keeps_keys old new change has stands keeps =
    let kept = keeps has.0 has.1 in record {
      directory = λ key is u r. after_change (λ (v : Tree). IsDirectoryKey v key) change old new has.0 has.1 stands (kept.directory key (is has.0 has.1)) u r;
      entry = λ key is u r.
          let was = is has.0 has.1 in
          after_change (IsEntry key) change old new has.0 has.1 stands (kept.node key was.0, λ e. was.1 (e ∙ ap root_key kept.blocks)) u r;
    }

-- an edit of the metadata of a node
pub keys_edited : (old new : List ℕ) (moment : Date3) (key : ℕ) (f : Node → Node) → HasTree old → ((t : Tree) → Stands old t → Stands new (stamped moment (changed key f t)))
    → ((node : Node) → (f node).content ≡ node.content) → KeepsKeys old new
keys_edited old new moment key f has stands same = keeps_keys old new (λ t. stamped moment (changed key f t)) has stands (λ t s. keeps_edited t moment key f same)

pub keeps_same : (image : List ℕ) → KeepsKeys image image
keeps_same image = record { directory = λ key is. is; entry = λ key is. is }

pub keeps_both : (old between last : List ℕ) → KeepsKeys old between → KeepsKeys between last → KeepsKeys old last
keeps_both old between last first then = record { directory = λ key is. then.directory key (first.directory key is); entry = λ key is. then.entry key (first.entry key is) }
