-- The tree of an image with marks, and its nodes.
use Rattle.ados_check.proofs.Common.{◌≡◌, ◌≢◌, ℕ, ◌⊎◌, inl, inr, Bool, true, false, not, ◌&&◌, nat_le, nat_lt, ◌==◌, if◌then◌else◌, List, [], Contains, Option, Some, None, is_some, refl, sym, ap, ◌∙◌, subst, arith, eq-eqb, ne_eqb, cases_eq, cases_Bool, and_parts, leb-true, ltb-true, lt-ltb, not-true, block_count, bytes_at, has_free_bit, protection, secondary_type, format_of, text_at, COMMENT_BYTE, NAME_BYTE, contents, Role, Content, Node, Tree, content_at, entries_in, entries, parent_of, Directory, File, date_at, InImage, root_of, joined, parent_in, content_in, directory_in, Mark, mark_at, IsChecked, IsSound, IsSoundEntry, Entry, Root, mark_of, le-leb}
use Rattle.ados_check.proofs.MarkLemmas.{none_is}
use Rattle.ados_check.proofs.Roles.{IsMarkedDirectory, as_root, as_entry, IsMarkedFile, root_role}
use Rattle.ados_check.proofs.RolePlaces.{chain_of}

-- the entries of a directory: its hash chains, concatenated
unfoldable pub keys_of : List ℕ → ℕ → List ℕ
keys_of image dir = joined (chain_of image dir) 72

abbrev pub content_of : List ℕ → ℕ → Content
content_of image block = if secondary_type image block == 2 then Directory (keys_of image block) else File (contents image block)

abbrev pub root_node : List ℕ → ℕ → Node
root_node image block = record {
  name = text_at image block NAME_BYTE;
  parent = None;
  protection = 0;
  date = date_at image block 105;
  comment = [];
  content = Directory (keys_of image block);
}

abbrev pub entry_node : List ℕ → ℕ → ℕ → Node
entry_node image block dir = record {
  name = text_at image block NAME_BYTE;
  parent = Some dir;
  protection = protection image block;
  date = date_at image block 105;
  comment = text_at image block COMMENT_BYTE;
  content = content_of image block;
}

-- the node for a block in a role
abbrev pub node_of : List ℕ → ℕ → Role → Option Node
node_of image block Root = Some (root_node image block)
node_of image block (Entry dir s) = Some (entry_node image block dir)
node_of image block _ = None

abbrev pub node_in : List ℕ → ℕ → Option Mark → Option Node
node_in image key None = None
node_in image key (Some mark) = node_of image key mark.role

-- the block is lost: neither marked nor marked free
unfoldable pub is_lost : List ℕ → List (Option Mark) → ℕ → Bool
is_lost image marks block = nat_le 2 block && (nat_lt block (block_count image) && (not (is_some (mark_at marks block)) && not (has_free_bit image block)))

abbrev pub lost_of : List ℕ → List (Option Mark) → ℕ → Option (List ℕ)
lost_of image marks block = if is_lost image marks block then Some (bytes_at image block 0 512) else None

abbrev pub tree_of : List ℕ → List (Option Mark) → Tree
tree_of image marks = record {
  blocks = block_count image;
  format = format_of image;
  disk_date = date_at image (root_of image) 118;
  creation_date = date_at image (root_of image) 121;
  nodes = λ key. node_in image key (mark_at marks key);
  lost = lost_of image marks;
}

-- the cases of a node
pub data NodeView (image : List ℕ) (marks : List (Option Mark)) (key : ℕ) (a : Node) : Type 0 where
  the_root : (m : Mark) → mark_at marks key ≡ Some m → m.role ≡ Root → a ≡ root_node image key → NodeView image marks key a
  an_entry : (m : Mark) (dir s : ℕ) → mark_at marks key ≡ Some m → m.role ≡ Entry dir s → a ≡ entry_node image key dir → NodeView image marks key a

module _ (image : List ℕ) (marks : List (Option Mark)) where
  pub node_view : (key : ℕ) (a : Node) → (tree_of image marks).nodes key ≡ Some a → NodeView image marks key a
  node_view key a h = go (mark_at marks key) refl h
    where
      by_role : (m : Mark) (role : Role) → mark_at marks key ≡ Some m → m.role ≡ role → node_of image key role ≡ Some a → NodeView image marks key a
      by_role m Root e is n = let same : root_node image key ≡ a = cc n in the_root m e is (sym same)
      by_role m (Entry dir s) e is n = let same : entry_node image key dir ≡ a = cc n in an_entry m dir s e is (sym same)
      by_role m _ e is n = absurd (cc n)

      go : (o : Option Mark) → mark_at marks key ≡ o → node_in image key o ≡ Some a → NodeView image marks key a
      go None e n = absurd (cc n)
      go (Some m) e n = by_role m m.role e refl n

  pub node_is : (key : ℕ) (m : Mark) (role : Role) → mark_at marks key ≡ Some m → m.role ≡ role → (tree_of image marks).nodes key ≡ node_of image key role
  node_is key m role e is = ap (node_in image key) e ∙ ap (node_of image key) is

  -- a node with a parent is marked as an entry of it
  pub entry_of_parent : (key dir : ℕ) → parent_of (tree_of image marks) key ≡ Some dir → (m : Mark) × (s : ℕ) × (mark_at marks key ≡ Some m) × (m.role ≡ Entry dir s)
  entry_of_parent key dir h =
      let found = parent_in ((tree_of image marks).nodes key) dir h in
      go found.0 found.2 (node_view key found.0 found.1)
    where
      go : (a : Node) → a.parent ≡ Some dir → NodeView image marks key a → (m : Mark) × (s : ℕ) × (mark_at marks key ≡ Some m) × (m.role ≡ Entry dir s)
      go a p (the_root m e is same) =
          let none : a.parent ≡ None = ap (λ (b : Node). b.parent) same in
          absurd (cc (none, p))
      go a p (an_entry m up s e is same) =
          let parent : a.parent ≡ Some up = ap (λ (b : Node). b.parent) same in
          let dirs : up ≡ dir = cc (parent, p) in
          (m, s, e, is ∙ ap (λ (d : ℕ). Entry d s) dirs)

  pub parent_of_entry : (key : ℕ) (m : Mark) (dir s : ℕ) → mark_at marks key ≡ Some m → m.role ≡ Entry dir s → parent_of (tree_of image marks) key ≡ Some dir
  parent_of_entry key m dir s e is = let n = node_is key m (Entry dir s) e is in rw n refl

  content_cases : (block : ℕ) → ((secondary_type image block ≡ 2) × (content_of image block ≡ Directory (keys_of image block))) ⊎ ((secondary_type image block ≢ 2) × (content_of image block ≡ File (contents image block)))
  content_cases block =
      elim (cases_eq (secondary_type image block) 2) [
        | inl e ↦ inl (e, rw (eq-eqb (secondary_type image block) 2 e) refl)
        | inr n ↦ inr (n, rw (ne_eqb (secondary_type image block) 2 n) refl)
      ]

  module _ (c : IsChecked image marks) where
    -- a node with keys is a directory, and its keys are those of its hash chains
    pub directory_content : (dir : ℕ) (a : Node) (keys : List ℕ) → (tree_of image marks).nodes dir ≡ Some a → a.content ≡ Directory keys → IsMarkedDirectory image marks dir × (keys ≡ keys_of image dir)
    directory_content dir a keys h is = go (node_view dir a h)
      where
        go : NodeView image marks dir a → IsMarkedDirectory image marks dir × (keys ≡ keys_of image dir)
        go (the_root m e role same) =
            let content : a.content ≡ Directory (keys_of image dir) = ap (λ (b : Node). b.content) same in
            let lists : keys ≡ keys_of image dir = cc (content, is) in
            (as_root (root_role image marks c.reached dir m e role), lists)
        go (an_entry m up s e role same) =
            let content : a.content ≡ content_of image dir = ap (λ (b : Node). b.content) same in
            elim (content_cases dir) [
              | inl (sec, d) ↦ (let lists : keys ≡ keys_of image dir = cc (content, is, d) in (as_entry m up s e role sec, lists))
              | inr (sec, d) ↦ absurd (cc (content, is, d))
            ]

    -- a node with bytes is a file, and its bytes are those in its blocks
    pub file_content : (file : ℕ) (a : Node) (bytes : List ℕ) → (tree_of image marks).nodes file ≡ Some a → a.content ≡ File bytes → IsMarkedFile image marks file × (bytes ≡ contents image file)
    file_content file a bytes h is = go (node_view file a h)
      where
        go : NodeView image marks file a → IsMarkedFile image marks file × (bytes ≡ contents image file)
        go (the_root m e role same) =
            let content : a.content ≡ Directory (keys_of image file) = ap (λ (b : Node). b.content) same in
            absurd (cc (content, is))
        go (an_entry m up s e role same) =
            let content : a.content ≡ content_of image file = ap (λ (b : Node). b.content) same in
            let sound : IsSoundEntry image file up s = subst (IsSound image file) role (c.reached.sound file m e) in
            elim (content_cases file) [
              | inl (sec, d) ↦ absurd (cc (content, is, d))
              | inr (sec, d) ↦ (let lists : bytes ≡ contents image file = cc (content, is, d) in (record { mark = m; dir = up; slot_of_chain = s; marked = e; role = role; secondary = elim sound.secondary [ inl z ↦ absurd (sec z) | inr z ↦ z ] }, lists))
            ]

    pub directory_keys : (dir : ℕ) → IsMarkedDirectory image marks dir → content_at (tree_of image marks) dir ≡ Some (Directory (keys_of image dir))
    directory_keys dir (as_root e) = let n = node_is dir (mark_of Root 0 0) Root (ap (mark_at marks) e ∙ c.reached.root) refl in rw n refl
    directory_keys dir (as_entry m up s e is sec) =
        let n = node_is dir m (Entry up s) e is in
        rw n (rw (eq-eqb (secondary_type image dir) 2 sec) refl)

    pub file_bytes : (file : ℕ) → IsMarkedFile image marks file → content_at (tree_of image marks) file ≡ Some (File (contents image file))
    file_bytes file f =
        let n = node_is file f.mark (Entry f.dir f.slot_of_chain) f.marked f.role in
        let other : secondary_type image file ≢ 2 = λ z. let sec = f.secondary in omega (arith, sec, z) in
        rw n (rw (ne_eqb (secondary_type image file) 2 other) refl)

    pub entries_are : (dir : ℕ) → IsMarkedDirectory image marks dir → entries (tree_of image marks) dir ≡ keys_of image dir
    entries_are dir d = ap entries_in (directory_keys dir d)

    -- a node with an entry is a directory
    pub directory_of_entry : (dir key : ℕ) → Contains (entries (tree_of image marks) dir) key → IsMarkedDirectory image marks dir
    directory_of_entry dir key h =
        let d = directory_in (content_at (tree_of image marks) dir) key h in
        let n = content_in ((tree_of image marks).nodes dir) (Directory d.0) d.1 in
        (directory_content dir n.0 d.0 n.1 n.2).0

  -- ---- lost blocks

  pub record IsLost (block : ℕ) : Type 0 where
    pub inside : InImage image block
    pub unmarked : mark_at marks block ≡ None
    pub used : has_free_bit image block ≡ false

  lost_means : (block : ℕ) → is_lost image marks block ≡ true → IsLost block
  unfolding is_lost
  lost_means block e =
      let one = and_parts _ _ e in
      let two = and_parts _ _ one.1 in
      let three = and_parts _ _ two.1 in
      record {
        inside = (leb-true 2 block one.0, ltb-true block (block_count image) two.0);
        unmarked = none_is _ (not-true _ three.0);
        used = not-true _ three.1;
      }

  pub lost_view : (block : ℕ) (bytes : List ℕ) → lost_of image marks block ≡ Some bytes → IsLost block × (bytes ≡ bytes_at image block 0 512)
  lost_view block bytes h = go (cases_Bool (is_lost image marks block))
    where
      go : (is_lost image marks block ≡ true) ⊎ (is_lost image marks block ≡ false) → IsLost block × (bytes ≡ bytes_at image block 0 512)
      go (inl e) =
          let there = rw e at h in
          let same : bytes ≡ bytes_at image block 0 512 = cc there in
          (lost_means block e, same)
      go (inr e) = let none = rw e at h in absurd (cc none)

  pub lost_is : (block : ℕ) → IsLost block → lost_of image marks block ≡ Some (bytes_at image block 0 512)
  unfolding is_lost
  lost_is block h =
      let marked : is_some (mark_at marks block) ≡ false = ap is_some h.unmarked in
      rw (le-leb 2 block h.inside.0, lt-ltb block (block_count image) h.inside.1, marked, h.used) refl
