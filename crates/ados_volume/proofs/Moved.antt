-- Cached children after an entry is made, removed or moved.
use Rattle.ados_volume.proofs.Common.{Contains, Contains-nil, Content, Date3, Directory, IsSome, List, Node, None, Option, Proper, Same, Some, Stands, Tree, [], ap, cases_eq, changed, child_of, content_at, content_in, directory_in, enter, entered, entries, entries_in, entry_node, filter, inl, inr, is_some, left, listed, made, map, name_in, name_of, new_node, not, option_map, option_map_or, parent_in, parent_of, refl, removed, renamed, slot, subst, sym, upper, with_node, ℕ, ◌==◌, ◌∙◌, ◌≡◌, ◌≢◌, ◌⊎◌}
use Rattle.ados_change.proofs.Changed.{nodes_here, nodes_other, changed_keeps, listed_names, listed_here, listed_other}
use Rattle.ados_change.proofs.Entering.{Contains-enter, Contains-enter_kept, Contains-entered, Contains-stays}
use Rattle.ados_volume.proofs.Children.{Stays, AllStay, child_there}
use Rattle.ados_volume.proofs.Looking.{is_child}

stays_on : (t u v : Tree) (dir k : ℕ) → Stays t u dir k → Stays u v dir k → Stays t v dir k
stays_on t u v dir k first second c = let a = first c in let b = second a.0 in (b.0, b.1 ∙ a.1)

-- ---- the steps

-- another node is added or removed
beside_stays : (t : Tree) (key : ℕ) (o : Option Node) (dir k : ℕ) → dir ≢ key → k ≢ key → Stays t (with_node key o t) dir k
beside_stays t key o dir k n m c = (
  subst (λ (a : Option Node). Contains (entries_in (option_map (λ node. node.content) a)) k) (sym (nodes_other key o t dir n)) c,
  ap name_in (nodes_other key o t k m),
)

-- another node gets a name and a directory
abbrev titled : List ℕ → ℕ → Node → Node
titled name parent node = record node { name = name; parent = Some parent }

titled_stays : (t : Tree) (key : ℕ) (name : List ℕ) (parent : ℕ) (dir k : ℕ) → k ≢ key → Stays t (changed key (titled name parent) t) dir k
titled_stays t key name parent dir k m c = (
  subst (λ (keys : List ℕ). Contains keys k) (sym (changed_keeps (λ (o : Option Node). entries_in (option_map (λ node. node.content) o)) (titled name parent) key t same dir)) c,
  ap name_in (nodes_other key (option_map (titled name parent) (t.nodes key)) t k m),
)
  where
    same : (o : Option Node) → entries_in (option_map (λ (node : Node). node.content) (option_map (titled name parent) o)) ≡ entries_in (option_map (λ (node : Node). node.content) o)
    same None = refl
    same (Some a) = refl

-- a directory gets a list that still has the entry
listed_stays : (t : Tree) (moment : Date3) (at : ℕ) (keys : List ℕ) (dir k : ℕ) → (dir ≡ at → Contains keys k) → Stays t (listed moment at keys t) dir k
listed_stays t moment at keys dir k still c = (elim (cases_eq dir at) [ inl e ↦ here e | inr n ↦ subst (λ (ks : List ℕ). Contains ks k) (sym (listed_other moment at keys t dir n)) c ], listed_names moment at keys t k)
  where
    here : dir ≡ at → Contains (entries (listed moment at keys t) dir) k
    here e =
        let d = directory_in (content_at t dir) k c in
        let a = content_in (t.nodes dir) (Directory d.0) d.1 in
        subst (λ (ks : List ℕ). Contains ks k) (sym (ap (entries (listed moment at keys t)) e ∙ listed_here moment at keys t a.0 (ap t.nodes (sym e) ∙ a.1))) (still e)

entered_stays : (t : Tree) (moment : Date3) (at key : ℕ) → AllStay t (entered moment at key t)
entered_stays t moment at key dir k c =
    listed_stays t moment at (enter (λ j. slot (name_of t j)) key (entries t at)) dir k
    (λ e. Contains-enter_kept (λ j. slot (name_of t j)) key (entries t at) k (subst (λ (i : ℕ). Contains (entries t i) k) e c)) c

left_stays : (t : Tree) (moment : Date3) (key : ℕ) (dir k : ℕ) → k ≢ key → Stays t (left moment key t) dir k
left_stays t moment key dir k n = go (parent_of t key)
  where
    go : (o : Option ℕ) → Stays t (option_map_or (λ from. listed moment from (filter (λ j. not (j == key)) (entries t from)) t) o t) dir k
    go None c = (c, refl)
    go (Some from) c =
        listed_stays t moment from (filter (λ j. not (j == key)) (entries t from)) dir k
        (λ e. Contains-stays key (entries t from) k (subst (λ (i : ℕ). Contains (entries t i) k) e c) n) c

-- ---- the changes

pub made_stay : (t : Tree) (proper : Proper t) (moment : Date3) (at key : ℕ) (name : List ℕ) (content : Content) → t.nodes key ≡ None → AllStay t (made moment at key name content t)
made_stay t proper moment at key name content unused dir k c =
    let begun : Tree = with_node key (Some (new_node moment at name content)) t in
    stays_on t begun (entered moment at key begun) dir k
    (beside_stays t key (Some (new_node moment at name content)) dir k not_dir not_key) (entered_stays begun moment at key dir k) c
  where
    not_key : k ≢ key
    not_key e =
        let a = entry_node t proper dir k c in
        let both : Some a.0 ≡ None = sym a.1 ∙ ap t.nodes e ∙ unused in
        absurd (cc both)

    not_dir : dir ≢ key
    not_dir e = Contains-nil k (subst (λ (o : Option Node). Contains (entries_in (option_map (λ node. node.content) o)) k) (ap t.nodes e ∙ unused) c)

-- a new entry without entries
module _ (t : Tree) (proper : Proper t) (moment : Date3) (at key : ℕ) (name : List ℕ) (content : Content) (unused : t.nodes key ≡ None) (empty : entries_in (Some content) ≡ []) (directory : (keys : List ℕ) × (content_at t at ≡ Some (Directory keys))) where
  abbrev begun : Tree
  begun = with_node key (Some (new_node moment at name content)) t

  abbrev with_new : Tree
  with_new = made moment at key name content t

  abbrev before : List ℕ
  before = entries begun at

  abbrev new_list : List ℕ
  new_list = enter (λ j. slot (name_of begun j)) key before

  no_entry : (d k : ℕ) → Contains (entries t d) k → k ≢ key
  no_entry d k c e =
      let a = entry_node t proper d k c in
      let both : Some a.0 ≡ None = sym a.1 ∙ ap t.nodes e ∙ unused in
      absurd (cc both)

  begun_at : (a : Node) × (begun.nodes at ≡ Some a)
  begun_at =
      let a = content_in (t.nodes at) (Directory directory.0) directory.1 in
      (a.0, nodes_other key (Some (new_node moment at name content)) t at (λ e. (let both : Some a.0 ≡ None = sym a.1 ∙ ap t.nodes e ∙ unused in absurd (cc both))) ∙ a.1)

  entries_before : (d k : ℕ) → Contains (entries begun d) k → Contains (entries t d) k
  entries_before d k c = elim (cases_eq d key) [
    | inl e ↦
        let none : entries begun d ≡ [] = ap (entries begun) e ∙ ap (λ (o : Option Node). entries_in (option_map (λ node. node.content) o)) (nodes_here key (Some (new_node moment at name content)) t) ∙ empty in
        absurd (Contains-nil k (subst (λ (keys : List ℕ). Contains keys k) none c))
    | inr n ↦ subst (λ (o : Option Node). Contains (entries_in (option_map (λ node. node.content) o)) k) (nodes_other key (Some (new_node moment at name content)) t d n) c
  ]

  new_name : name_of with_new key ≡ name
  new_name = listed_names moment at new_list begun key ∙ ap name_in (nodes_here key (Some (new_node moment at name content)) t)

  stays_back : (d k : ℕ) → Contains (entries begun d) k → Stays with_new t d k
  stays_back d k c later =
      let was = entries_before d k c in
      (was, sym (listed_names moment at new_list begun k ∙ ap name_in (nodes_other key (Some (new_node moment at name content)) t k (no_entry d k was))))

  -- each entry was one, or is the new one
  pub made_from : (d k : ℕ) → Contains (entries with_new d) k → Stays with_new t d k ⊎ ((d ≡ at) × (k ≡ key) × (name_of with_new k ≡ name))
  made_from d k c = elim (cases_eq d at) [
    | inr n ↦ inl (stays_back d k (subst (λ (keys : List ℕ). Contains keys k) (listed_other moment at new_list begun d n) c))
    | inl e ↦
        let there : Contains new_list k = subst (λ (keys : List ℕ). Contains keys k) (ap (entries with_new) e ∙ listed_here moment at new_list begun begun_at.0 begun_at.1) c in
        elim (Contains-enter (λ j. slot (name_of begun j)) key before k there) [
          | inl same ↦ inr (e, sym same, ap (name_of with_new) (sym same) ∙ new_name)
          | inr was ↦ inl (stays_back d k (subst (λ (i : ℕ). Contains (entries begun i) k) (sym e) was))
        ]
  ]

  -- the new one has the name in its directory
  pub made_child : (image : List ℕ) → Stands image with_new → child_of with_new at name ≡ Some key
  made_child image r =
      is_child image with_new r at key name
      (subst (λ (keys : List ℕ). Contains keys key) (sym (listed_here moment at new_list begun begun_at.0 begun_at.1)) (Contains-entered (λ j. slot (name_of begun j)) key before))
      (ap (map upper) new_name)

pub removed_stays : (t : Tree) (moment : Date3) (key : ℕ) → entries t key ≡ [] → (dir k : ℕ) → k ≢ key → Stays t (removed moment key t) dir k
removed_stays t moment key empty dir k n c =
    stays_on t (left moment key t) (with_node key None (left moment key t)) dir k
    (left_stays t moment key dir k n) (beside_stays (left moment key t) key None dir k not_dir n) c
  where
    not_dir : dir ≢ key
    not_dir e = Contains-nil k (subst (λ (keys : List ℕ). Contains keys k) (ap (entries t) e ∙ empty) c)

pub renamed_stays : (t : Tree) (moment : Date3) (key at : ℕ) (name : List ℕ) (dir k : ℕ) → k ≢ key → Stays t (renamed moment key at name t) dir k
renamed_stays t moment key at name dir k n =
    let out : Tree = left moment key t in
    let moved : Tree = changed key (titled name at) out in
    stays_on t out (entered moment at key moved) dir k (left_stays t moment key dir k n)
    (stays_on out moved (entered moment at key moved) dir k (titled_stays out key name at dir k n) (entered_stays moved moment at key dir k))

-- ---- the cached names

module _ (image : List ℕ) (t : Tree) (s : Stands image t) (key : ℕ) where
  -- after its name in its directory was removed, no pair has that object
  pub forgets : (dir : ℕ) (name : List ℕ) → parent_of t key ≡ Some dir → name ≡ name_of t key → (d : ℕ) (n : List ℕ) → ¬ ((d ≡ dir) × Same n name) → child_of t d n ≢ Some key
  forgets dir name parent own d n gone e =
      let there = child_there t d key n e in
      let same_dir : Some d ≡ Some dir = sym ((s.proper.listed d key).0 there.0) ∙ parent in
      let same : Same n name = sym (subst (λ (x : List ℕ). Same x n) (sym own) there.1) in
      gone (cc same_dir, same)

  -- an object without a directory is no child
  pub no_child_here : parent_of t key ≡ None → (d : ℕ) (n : List ℕ) → child_of t d n ≢ Some key
  no_child_here parent d n e =
      let there = child_there t d key n e in
      let both : Some d ≡ None = sym ((s.proper.listed d key).0 there.0) ∙ parent in
      absurd (cc both)

  pub has_parent : (dir : ℕ) → parent_of t key ≡ Some dir → IsSome (t.nodes key)
  has_parent dir e = let n = parent_in (t.nodes key) dir e in ap is_some n.1
