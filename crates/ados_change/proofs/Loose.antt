-- An image that has the blocks of a tree. It represents the tree if that is proper.
use Rattle.ados_change.proofs.Common.{◌≡◌, ℕ, ◌*◌, ◌<◌, List, [], ◌∷◌, length, Some, is_some, Contains, refl, ◌∙◌, bytes_at, block_sum, IsInside, Chained, HasFreeBit, table_entry, NEXT_IN_CHAIN, HasFile, Layout, Duty, HasDuty, Fits, Named, Stands, HasNode, HasEntry, HasRoot, format_byte, in_slot, Node, Tree, Proper, Directory, File, ◌≢◌, ◌≤◌, ◌⊎◌, inl, inr, ◌↔◌, ◌==◌, not, filter, map, AllPairs, Option, None, option_map, option_and_then, sym, ap, subst, arith, option_map_or, cases_eq, AllPairs-filter, IsSize, Date3, Same, slot, upper, IsName, IsComment, Contains-nil, Contains-filter, Once, is_not, LeadsToRoot, IsRoot, root, entries, entries_in, name_of, parent_of, name_in, at_root, by_parent, with_node, listed, enter, entered, left, stamped, entry_node, directory_node, parent_in, ◌++◌, eq-eqb, ne_eqb, with_last, without}
use Rattle.ados_change.proofs.Entering.{Contains-enter, Contains-entered, Contains-enter_kept, Once-enter, Rises-enter, Contains-stays, Contains-left, part-enter, part-enter_other, filter-swap, filter_same}
use Rattle.ados_change.proofs.SameLists.{leads_alike, proper_alike, rising_alike}
use Rattle.ados_change.proofs.Changed.{nodes_here, nodes_other, was, was_with, relisted, listed_names, listed_parents, listed_here, listed_other, each_list}

-- everything that an image which represents a tree has, except that the tree is proper
pub record Spells (image : List ℕ) (t : Tree) (l : Layout) : Type 0 where
  pub fits : Fits t l
  pub whole : length image ≡ 512 * t.blocks
  pub boot : bytes_at image 0 0 4 ≡ 68 ∷ 79 ∷ 83 ∷ format_byte t.format ∷ []
  pub root_fields : HasRoot image t l
  pub nodes : (key : ℕ) (node : Node) → t.nodes key ≡ Some node → HasNode image key node
  pub entries : (key dir : ℕ) (node : Node) → t.nodes key ≡ Some node → node.parent ≡ Some dir → HasEntry image key node dir
  pub pages : (page : ℕ) → Contains l.pages page → block_sum image page ≡ 0
  pub lost : (block : ℕ) (bytes : List ℕ) → t.lost block ≡ Some bytes → bytes_at image block 0 512 ≡ bytes
  pub chains : (dir : ℕ) (node : Node) (keys : List ℕ) (s : ℕ) → t.nodes dir ≡ Some node → node.content ≡ Directory keys → s < 72 → Chained image NEXT_IN_CHAIN (table_entry image dir s) (in_slot t dir s)
  pub files : (file : ℕ) (node : Node) (bytes : List ℕ) → t.nodes file ≡ Some node → node.content ≡ File bytes → HasFile image t.format file (l.file_data file) (l.extensions file) bytes
  pub marked_free : (block : ℕ) → IsInside t.blocks block → HasFreeBit image block → ¬ Named t l block
  pub marked_used : (block : ℕ) → IsInside t.blocks block → ¬ HasFreeBit image block → Named t l block

pub spells : (image : List ℕ) (t : Tree) (s : Stands image t) → Spells image t s.layout
spells image t s = record {
  fits = s.fits;
  whole = s.whole;
  boot = s.boot;
  root_fields = s.root_fields;
  nodes = s.nodes;
  entries = s.entries;
  pages = s.pages;
  lost = s.lost;
  chains = s.chains;
  files = s.files;
  marked_free = s.marked_free;
  marked_used = s.marked_used;
}

pub stands : (image : List ℕ) (t : Tree) (l : Layout) → Proper t → Spells image t l → Stands image t
stands image t l proper s = record {
  proper = proper;
  layout = l;
  fits = s.fits;
  whole = s.whole;
  boot = s.boot;
  root_fields = s.root_fields;
  nodes = s.nodes;
  entries = s.entries;
  pages = s.pages;
  lost = s.lost;
  chains = s.chains;
  files = s.files;
  marked_free = s.marked_free;
  marked_used = s.marked_used;
}

pub layout_is : (image : List ℕ) (t : Tree) (l : Layout) (proper : Proper t) (s : Spells image t l) → (stands image t l proper s).layout ≡ l
unfolding stands
layout_is image t l proper s = refl

-- a block has the same uses in a tree with the same keys and lost blocks
pub same_duty : (t u : Tree) (l : Layout) (b : ℕ) → is_some (u.nodes b) ≡ is_some (t.nodes b) → is_some (u.lost b) ≡ is_some (t.lost b) → (duty : Duty) → HasDuty t l b duty → HasDuty u l b duty
same_duty t u l b key lost Duty.Key m = key ∙ m
same_duty t u l b key lost Duty.Lost m = lost ∙ m
same_duty t u l b key lost duty m = m

-- ---- a tree with one key in no list: the state between the steps of a change

-- the chain of parents leads from the key to the root, or to the loose key
pub data LeadsLoosely (t : Tree) (loose : ℕ) : ℕ → Type 0 where
  to_root : {key : ℕ} → key ≡ root t → LeadsLoosely t loose key
  to_loose : {key : ℕ} → key ≡ loose → LeadsLoosely t loose key
  to_parent : {key dir : ℕ} → key ≢ loose → parent_of t key ≡ Some dir → LeadsLoosely t loose dir → LeadsLoosely t loose key

-- a path to the root of a tree, in a tree with the same parents
leads_loosely : (t u : Tree) (loose : ℕ) → root u ≡ root t → ((k : ℕ) → parent_of u k ≡ parent_of t k) → (k : ℕ) → LeadsToRoot t k → LeadsLoosely u loose k
leads_loosely t u loose same parents k (at_root e) = to_root (e ∙ sym same)
leads_loosely t u loose same parents k (by_parent {dir = d} p rest) = elim (cases_eq k loose) [ inl e ↦ to_loose e | inr n ↦ to_parent n (parents k ∙ p) (leads_loosely t u loose same parents d rest) ]

-- a node with a parent is not the root
pub parent_not_root : (t : Tree) → (node : Node) × (t.nodes (root t) ≡ Some node) × IsRoot node → (k d : ℕ) → parent_of t k ≡ Some d → k ≢ root t
parent_not_root t r k d p e =
    let none : parent_of t k ≡ None = let at : t.nodes k ≡ Some r.0 = ap t.nodes e ∙ r.1 in rw at r.2.no_parent in
    cc (none, p)

-- no entry is its own directory
pub own_parent : (t : Tree) → (node : Node) × (t.nodes (root t) ≡ Some node) × IsRoot node → (loose k : ℕ) → LeadsLoosely t loose k → k ≢ loose → parent_of t k ≡ Some k → ⊥
own_parent t r loose k (to_root e) n p = parent_not_root t r k k p e
own_parent t r loose k (to_loose e) n p = n e
own_parent t r loose k (to_parent {dir = d} m q rest) n p =
    let same : d ≡ k = cc (q, p) in
    own_parent t r loose d rest (λ e. n (sym same ∙ e)) (subst (λ (i : ℕ). parent_of t i ≡ Some i) (sym same) p)

-- one tree with its lists in order, except that the loose key is in no list; it may be a node or not
pub record Loose (t : Tree) (loose : ℕ) : Type 0 where
  pub size : IsSize t.blocks
  pub inside : (key : ℕ) (node : Node) → t.nodes key ≡ Some node → IsInside t.blocks key
  pub root_node : (node : Node) × (t.nodes (root t) ≡ Some node) × IsRoot node
  pub not_root : loose ≢ root t
  pub listed : (dir key : ℕ) → Contains (entries t dir) key ↔ ((key ≢ loose) × (parent_of t key ≡ Some dir))
  pub once : (dir : ℕ) → AllPairs (λ j k. j ≢ k) (entries t dir)
  pub unlike : (dir j k : ℕ) → Contains (entries t dir) j → Contains (entries t dir) k → Same (name_of t j) (name_of t k) → j ≡ k
  pub rising : (dir : ℕ) → AllPairs (λ j k. slot (name_of t j) ≤ slot (name_of t k)) (entries t dir)
  pub rooted : (key : ℕ) (node : Node) → t.nodes key ≡ Some node → LeadsLoosely t loose key
  pub name : (key : ℕ) (node : Node) → t.nodes key ≡ Some node → IsName node.name
  pub comment : (key : ℕ) (node : Node) → t.nodes key ≡ Some node → IsComment node.comment

-- the root is still a root with another list of entries
root_relisted : (moment : Date3) (dir : ℕ) (keys : List ℕ) (t : Tree) → (node : Node) × (t.nodes (root t) ≡ Some node) × IsRoot node → (node : Node) × ((listed moment dir keys t).nodes (root t) ≡ Some node) × IsRoot node
root_relisted moment dir keys t (node, at, is) = elim (cases_eq (root t) dir) [
  | inl e ↦ (
    relisted moment keys node,
    ap (listed moment dir keys t).nodes e ∙ nodes_here dir (option_map (relisted moment keys) (t.nodes dir)) t ∙ ap (option_map (relisted moment keys)) (ap t.nodes (sym e) ∙ at),
    record { no_parent = is.no_parent; no_protection = is.no_protection; no_comment = is.no_comment; keys = keys; directory = refl },
  )
  | inr n ↦ (node, nodes_other dir (option_map (relisted moment keys) (t.nodes dir)) t (root t) n ∙ at, is)
]

-- ---- a key leaves its list

module _ (t : Tree) (proper : Proper t) (key from : ℕ) (below : parent_of t key ≡ Some from) (moment : Date3) where
  abbrev pub kept : List ℕ
  kept = filter (is_not key) (entries t from)

  -- the tree without the key in its directory's list
  abbrev pub l : Tree
  l = listed moment from kept t

  pub in_list : Contains (entries t from) key
  in_list = (proper.listed from key).1 below

  directory : Node
  directory = (directory_node t proper from key in_list).0

  directory_at : t.nodes from ≡ Some directory
  unfolding directory
  directory_at = (directory_node t proper from key in_list).2

  pub entries_other : (d : ℕ) → d ≢ from → entries l d ≡ entries t d
  entries_other = listed_other moment from kept t

  pub names_same : (k : ℕ) → name_of l k ≡ name_of t k
  names_same = listed_names moment from kept t

  pub parents_same : (k : ℕ) → parent_of l k ≡ parent_of t k
  parents_same = listed_parents moment from kept t

  -- an element of a new list was in the old one
  pub was_listed : (d k : ℕ) → Contains (entries l d) k → Contains (entries t d) k × (k ≢ key)
  was_listed d k =
      each_list moment from kept t (λ d keys. Contains keys k → Contains (entries t d) k × (k ≢ key)) directory directory_at
      (λ m. (Contains-filter key (entries t from) k m, λ same. Contains-left key (entries t from) (subst (Contains kept) same m)))
      (λ d o m. (m, λ same. let there : parent_of t key ≡ Some d = ap (parent_of t) (sym same) ∙ (proper.listed d k).0 m in o (cc (there, below)))) d

  -- pairs of entries that are still there
  pairs_kept : (R : ℕ → ℕ → Type 0) (d : ℕ) → ((e : ℕ) → AllPairs R (entries t e)) → AllPairs R (entries l d)
  pairs_kept R d h = each_list moment from kept t (λ d keys. AllPairs R keys) directory directory_at (AllPairs-filter R (is_not key) (entries t from) (h from)) (λ d o. h d) d

  pub unlisted_is_loose : Loose l key
  unlisted_is_loose = record {
    size = proper.size;
    inside = λ k a e. let w = was (relisted moment kept) from t k a e in proper.inside k w.old w.at;
    root_node = root_relisted moment from kept t proper.root_node;
    not_root = parent_not_root t proper.root_node key from below;
    listed = λ d k. (λ m. let w = was_listed d k m in (w.1, parents_same k ∙ (proper.listed d k).0 w.0), λ h. (each_list moment from kept t (λ d keys. Contains (entries t d) k → k ≢ key → Contains keys k) directory directory_at (Contains-stays key (entries t from) k) (λ d o m n. m) d) ((proper.listed d k).1 (sym (parents_same k) ∙ h.1)) h.0);
    once = λ d. pairs_kept (λ j k. j ≢ k) d proper.once;
    unlike = λ d j k m n same. proper.unlike d j k (was_listed d j m).0 (was_listed d k n).0 (ap (map upper) (sym (names_same j)) ∙ same ∙ ap (map upper) (names_same k));
    rising = λ d. rising_alike (name_of t) (name_of l) (entries l d) (λ k m. names_same k) (pairs_kept (λ j k. slot (name_of t j) ≤ slot (name_of t k)) d proper.rising);
    rooted = λ k a e. let w = was (relisted moment kept) from t k a e in leads_loosely t l key refl parents_same k (proper.rooted k w.old w.at);
    name = λ k a e. let w = was (relisted moment kept) from t k a e in was_with (λ n. IsName n.name) (relisted moment kept) from t k a (λ n h. h) w (proper.name k w.old w.at);
    comment = λ k a e. let w = was (relisted moment kept) from t k a e in was_with (λ n. IsComment n.comment) (relisted moment kept) from t k a (λ n h. h) w (proper.comment k w.old w.at);
  }

  pub left_is : left moment key t ≡ l
  left_is = ap (λ (o : Option ℕ). option_map_or (λ dir. listed moment dir (filter (λ k. not (k == key)) (entries t dir)) t) o t) below

  -- an entry is not its own directory
  pub not_own_parent : from ≢ key
  not_own_parent e =
      let node = parent_in (t.nodes key) from below in
      let inside = proper.inside key node.0 node.1 in
      own_parent t proper.root_node 0 key (leads_loosely t t 0 refl (λ i. refl) key (proper.rooted key node.0 node.1)) (omega (arith, inside.0)) (below ∙ ap Some e)

  -- the key's own node is unchanged
  pub node_kept : l.nodes key ≡ t.nodes key
  node_kept = nodes_other from (option_map (relisted moment kept) (t.nodes from)) t key (λ e. not_own_parent (sym e))

  -- a node is still a node
  pub still_node : (k : ℕ) (a : Node) → t.nodes k ≡ Some a → (b : Node) × (l.nodes k ≡ Some b)
  still_node k a e = elim (cases_eq k from) [
    | inl d ↦ (relisted moment kept a, ap l.nodes d ∙ nodes_here from (option_map (relisted moment kept) (t.nodes from)) t ∙ ap (option_map (relisted moment kept)) (ap t.nodes (sym d) ∙ e))
    | inr n ↦ (a, nodes_other from (option_map (relisted moment kept) (t.nodes from)) t k n ∙ e)
  ]

-- ---- a key that is no node yet

pub unused_is_loose : (t : Tree) (key : ℕ) → Proper t → t.nodes key ≡ None → Loose t key
unused_is_loose t key proper unused = record {
  size = proper.size;
  inside = proper.inside;
  root_node = proper.root_node;
  not_root = λ e. let at = ap t.nodes e ∙ proper.root_node.1 in cc (at, unused);
  listed = λ d k. (
    λ m.
        let n = entry_node t proper d k m in
        (λ e. let at = ap t.nodes (sym e) ∙ n.1 in cc (at, unused), (proper.listed d k).0 m),
    λ h. (proper.listed d k).1 h.1,
  );
  once = proper.once;
  unlike = proper.unlike;
  rising = proper.rising;
  rooted = λ k a e. leads_loosely t t key refl (λ i. refl) k (proper.rooted k a e);
  name = proper.name;
  comment = proper.comment;
}

-- a proper tree has no node in block 0
pub proper_is_loose : (t : Tree) → Proper t → Loose t 0
proper_is_loose t proper = unused_is_loose t 0 proper (none (t.nodes 0) refl)
  where
    none : (o : Option Node) → t.nodes 0 ≡ o → o ≡ None
    none None e = refl
    none (Some a) e = absurd (let inside = proper.inside 0 a e in omega (arith, inside.0))

-- a tree without a node at the loose key, and with none below it, is proper
loose_is_proper : (t : Tree) (key : ℕ) → Loose t key → t.nodes key ≡ None → entries t key ≡ [] → Proper t
loose_is_proper t key loose none empty = record {
  size = loose.size;
  inside = loose.inside;
  root_node = loose.root_node;
  listed = λ d k. (λ m. ((loose.listed d k).0 m).1, λ h. (loose.listed d k).1 ((λ e. let gone : parent_of t k ≡ None = ap (λ (i : ℕ). parent_of t i) e ∙ ap (option_and_then (λ node. node.parent)) none in cc (gone, h)), h));
  once = loose.once;
  unlike = loose.unlike;
  rising = loose.rising;
  rooted = λ k a e. leads_on k (λ d. let at = ap t.nodes (sym d) ∙ e in cc (at, none)) (loose.rooted k a e);
  name = loose.name;
  comment = loose.comment;
}
  where
    -- only the key itself leads to the key
    leads_on : (k : ℕ) → k ≢ key → LeadsLoosely t key k → LeadsToRoot t k
    leads_on k n (to_root e) = at_root e
    leads_on k n (to_loose e) = absurd (n e)
    leads_on k n (to_parent {dir = d} m p rest) =
        let not_below : d ≢ key = λ e. Contains-nil k (subst (λ (keys : List ℕ). Contains keys k) (ap (entries t) e ∙ empty) ((loose.listed d k).1 (m, p))) in
        by_parent p (leads_on d not_below rest)

-- ---- the node of the loose key is changed, made or removed

module _ (t : Tree) (key : ℕ) (loose : Loose t key) (o : Option Node) (same_list : entries_in (option_map (λ node. node.content) o) ≡ entries t key) where
  abbrev w : Tree
  w = with_node key o t

  pub node_other : (k : ℕ) → k ≢ key → w.nodes k ≡ t.nodes k
  node_other k n = nodes_other key o t k n

  pub name_other : (k : ℕ) → k ≢ key → name_of w k ≡ name_of t k
  name_other k n = ap name_in (node_other k n)

  pub parent_other : (k : ℕ) → k ≢ key → parent_of w k ≡ parent_of t k
  parent_other k n = ap (option_and_then (λ node. node.parent)) (node_other k n)

  pub entries_with : (d : ℕ) → entries w d ≡ entries t d
  entries_with d = elim (cases_eq d key) [
    | inl e ↦ ap (λ (o : Option Node). entries_in (option_map (λ node. node.content) o)) (ap w.nodes e ∙ nodes_here key o t) ∙ same_list ∙ ap (entries t) (sym e)
    | inr n ↦ ap (λ (o : Option Node). entries_in (option_map (λ node. node.content) o)) (node_other d n)
  ]

  listed_before : (d k : ℕ) → Contains (entries w d) k → Contains (entries t d) k
  listed_before d k m = subst (λ (keys : List ℕ). Contains keys k) (entries_with d) m

  pub not_key : (d k : ℕ) → Contains (entries t d) k → k ≢ key
  not_key d k m = ((loose.listed d k).0 m).0

  unlike_with : (d j k : ℕ) → Contains (entries w d) j → Contains (entries w d) k → Same (name_of w j) (name_of w k) → j ≡ k
  unlike_with d j k m n same =
      let p = listed_before d j m in
      let q = listed_before d k n in
      loose.unlike d j k p q (ap (map upper) (sym (name_other j (not_key d j p))) ∙ same ∙ ap (map upper) (name_other k (not_key d k q)))

  leads_with : (k : ℕ) → LeadsLoosely t key k → LeadsLoosely w key k
  leads_with k (to_root e) = to_root e
  leads_with k (to_loose e) = to_loose e
  leads_with k (to_parent {dir = d} n p rest) = to_parent n (parent_other k n ∙ p) (leads_with d rest)

  -- a fact about all nodes except that of the key
  each_with : (P : ℕ → Node → Type 0) → ((k : ℕ) (a : Node) → t.nodes k ≡ Some a → P k a) → ((a : Node) → o ≡ Some a → P key a) → (k : ℕ) (a : Node) → w.nodes k ≡ Some a → P k a
  each_with P h here k a e = elim (cases_eq k key) [
    | inl d ↦ subst (λ (i : ℕ). P i a) (sym d) (here a (sym (nodes_here key o t) ∙ ap w.nodes (sym d) ∙ e))
    | inr n ↦ h k a (sym (node_other k n) ∙ e)
  ]

  -- the key is still loose with another node in its place
  pub changed_is_loose : ((a : Node) → o ≡ Some a → IsInside t.blocks key × IsName a.name × IsComment a.comment) → Loose w key
  changed_is_loose here = record {
    size = loose.size;
    inside = each_with (λ k a. IsInside t.blocks k) loose.inside (λ a e. (here a e).0);
    root_node = (loose.root_node.0, node_other (root t) (λ e. loose.not_root (sym e)) ∙ loose.root_node.1, loose.root_node.2);
    not_root = loose.not_root;
    listed = λ d k. (λ m. let p = (loose.listed d k).0 (listed_before d k m) in (p.0, parent_other k p.0 ∙ p.1), λ h. subst (λ (keys : List ℕ). Contains keys k) (sym (entries_with d)) ((loose.listed d k).1 (h.0, sym (parent_other k h.0) ∙ h.1)));
    once = λ d. subst Once (sym (entries_with d)) (loose.once d);
    unlike = unlike_with;
    rising = λ d. subst (AllPairs (λ j k. slot (name_of w j) ≤ slot (name_of w k))) (sym (entries_with d)) (rising_alike (name_of t) (name_of w) (entries t d) (λ k m. name_other k (not_key d k m)) (loose.rising d));
    rooted = each_with (λ k a. LeadsLoosely w key k) (λ k a e. leads_with k (loose.rooted k a e)) (λ a e. to_loose refl);
    name = each_with (λ k a. IsName a.name) loose.name (λ a e. (here a e).1);
    comment = each_with (λ k a. IsComment a.comment) loose.comment (λ a e. (here a e).2);
  }

  -- the tree is proper if the key has no node and nothing is below it
  pub without_is_proper : o ≡ None → entries t key ≡ [] → Proper w
  without_is_proper none empty = loose_is_proper w key (changed_is_loose (λ a e. absurd (cc (none, e)))) (nodes_here key o t ∙ none) (entries_with key ∙ empty)

-- ---- the loose key joins a list

module _ (t : Tree) (key dir : ℕ) (loose : Loose t key) (directory : Node) (at : t.nodes dir ≡ Some directory) (below : parent_of t key ≡ Some dir) (to_dir : LeadsToRoot t dir) (new_name : (k : ℕ) → Contains (entries t dir) k → ¬ Same (name_of t k) (name_of t key)) (moment : Date3) where
  abbrev slot_of : ℕ → ℕ
  slot_of k = slot (name_of t k)

  abbrev more : List ℕ
  more = enter slot_of key (entries t dir)

  abbrev e : Tree
  e = entered moment dir key t

  names_stay : (k : ℕ) → name_of e k ≡ name_of t k
  names_stay = listed_names moment dir more t

  parents_stay : (k : ℕ) → parent_of e k ≡ parent_of t k
  parents_stay = listed_parents moment dir more t

  listed_is : (d k : ℕ) → Contains (entries e d) k → ((d ≡ dir) × (key ≡ k)) ⊎ Contains (entries t d) k
  listed_is d k =
      each_list moment dir more t (λ d keys. Contains keys k → ((d ≡ dir) × (key ≡ k)) ⊎ Contains (entries t d) k) directory at
      (λ m. elim (Contains-enter slot_of key (entries t dir) k m) [ inl h ↦ inl (refl, h) | inr h ↦ inr h ]) (λ d o m. inr m) d

  unlike_into : (d j k : ℕ) → Contains (entries e d) j → Contains (entries e d) k → Same (name_of t j) (name_of t k) → j ≡ k
  unlike_into d j k m n same = go (listed_is d j m) (listed_is d k n)
    where
      go : ((d ≡ dir) × (key ≡ j)) ⊎ Contains (entries t d) j → ((d ≡ dir) × (key ≡ k)) ⊎ Contains (entries t d) k → j ≡ k
      go (inl p) (inl q) = sym p.1 ∙ q.1
      go (inr p) (inr q) = loose.unlike d j k p q same
      go (inl p) (inr q) = absurd (new_name k (subst (λ (i : ℕ). Contains (entries t i) k) p.0 q) (sym same ∙ ap (λ (i : ℕ). map upper (name_of t i)) (sym p.1)))
      go (inr p) (inl q) = absurd (new_name j (subst (λ (i : ℕ). Contains (entries t i) j) q.0 p) (same ∙ ap (λ (i : ℕ). map upper (name_of t i)) (sym q.1)))

  leads_into : (k : ℕ) → LeadsLoosely t key k → LeadsToRoot e k
  leads_into k (to_root r) = at_root r
  leads_into k (to_loose r) = by_parent (parents_stay k ∙ ap (parent_of t) r ∙ below) (leads_alike t e refl parents_stay dir to_dir)
  leads_into k (to_parent {dir = d} n p rest) = by_parent (parents_stay k ∙ p) (leads_into d rest)

  pub entered_is_proper : Proper e
  entered_is_proper = record {
    size = loose.size;
    inside = λ k a h. let w = was (relisted moment more) dir t k a h in loose.inside k w.old w.at;
    root_node = root_relisted moment dir more t loose.root_node;
    listed = λ d k. (λ m. parents_stay k ∙ was_parent d k (listed_is d k m), λ h. is_listed d k (sym (parents_stay k) ∙ h));
    once = each_list moment dir more t (λ d keys. Once keys) directory at (Once-enter slot_of key (entries t dir) (loose.once dir) (λ m. ((loose.listed dir key).0 m).0 refl)) (λ d o. loose.once d);
    unlike = λ d j k m n same. unlike_into d j k m n (ap (map upper) (sym (names_stay j)) ∙ same ∙ ap (map upper) (names_stay k));
    rising = λ d. rising_alike (name_of t) (name_of e) (entries e d) (λ k m. names_stay k) ((each_list moment dir more t (λ d keys. AllPairs (λ j k. slot_of j ≤ slot_of k) keys) directory at (Rises-enter slot_of key (entries t dir) (loose.rising dir)) (λ d o. loose.rising d)) d);
    rooted = λ k a h. let w = was (relisted moment more) dir t k a h in leads_into k (loose.rooted k w.old w.at);
    name = λ k a h. let w = was (relisted moment more) dir t k a h in was_with (λ n. IsName n.name) (relisted moment more) dir t k a (λ n h. h) w (loose.name k w.old w.at);
    comment = λ k a h. let w = was (relisted moment more) dir t k a h in was_with (λ n. IsComment n.comment) (relisted moment more) dir t k a (λ n h. h) w (loose.comment k w.old w.at);
  }
    where
      was_parent : (d k : ℕ) → ((d ≡ dir) × (key ≡ k)) ⊎ Contains (entries t d) k → parent_of t k ≡ Some d
      was_parent d k (inl p) = ap (parent_of t) (sym p.1) ∙ below ∙ ap Some (sym p.0)
      was_parent d k (inr p) = ((loose.listed d k).0 p).1

      is_listed : (d k : ℕ) → parent_of t k ≡ Some d → Contains (entries e d) k
      is_listed d k h = elim (cases_eq k key) [
        | inl same ↦
            let here : parent_of t key ≡ Some d = ap (parent_of t) (sym same) ∙ h in
            let dirs : dir ≡ d = cc (below, here) in
            subst (λ (i : ℕ). Contains (entries e i) k) dirs (subst (λ (keys : List ℕ). Contains keys k) (sym (listed_here moment dir more t directory at)) (subst (Contains more) (sym same) (Contains-entered slot_of key (entries t dir))))
        | inr other ↦ (each_list moment dir more t (λ d keys. Contains (entries t d) k → Contains keys k) directory at (Contains-enter_kept slot_of key (entries t dir) k) (λ d o m. m) d) ((loose.listed d k).1 (other, h))
      ]

pub stamped_is_proper : (moment : Date3) (t : Tree) → Proper t → Proper (stamped moment t)
stamped_is_proper moment t p = proper_alike t t.nodes moment (λ k. refl) (λ dir. refl) (λ dir k m. refl) p p.root_node (λ k a e. (a, e)) p.name p.comment

-- ---- the hash chains of a directory whose list changes

module _ (t : Tree) (dir : ℕ) (moment : Date3) where
  abbrev slot_by : ℕ → ℕ
  slot_by k = slot (name_of t k)

  -- the slots of a directory by its new list
  by_list : (keys : List ℕ) (d q : ℕ) → in_slot (listed moment dir keys t) d q ≡ filter (λ k. slot (name_of t k) == q) (entries (listed moment dir keys t) d)
  by_list keys d q = ap (λ (nm : ℕ → List ℕ). filter (λ k. slot (nm k) == q) (entries (listed moment dir keys t) d)) (λ i k. listed_names moment dir keys t k i)

  -- another directory keeps its hash chains
  pub slots_other : (keys : List ℕ) (d q : ℕ) → d ≢ dir → in_slot (listed moment dir keys t) d q ≡ in_slot t d q
  slots_other keys d q n = by_list keys d q ∙ ap (filter (λ k. slot (name_of t k) == q)) (listed_other moment dir keys t d n)

  module _ (a : Node) (at : t.nodes dir ≡ Some a) (key : ℕ) where
    -- a new key is the last of its slot's hash chain
    pub slots_entered : AllPairs (λ j k. slot (name_of t j) ≤ slot (name_of t k)) (entries t dir) → (q : ℕ) → in_slot (entered moment dir key t) dir q ≡ with_last (in_slot t dir) (slot (name_of t key)) key q
    slots_entered rising q =
        let more = enter slot_by key (entries t dir) in
        by_list (enter slot_by key (entries t dir)) dir q
        ∙ ap (filter (λ k. slot (name_of t k) == q)) (listed_here moment dir (enter slot_by key (entries t dir)) t a at)
        ∙ elim (cases_eq q (slot (name_of t key))) [
          | inl e ↦ subst (λ (p : ℕ). filter (λ k. slot (name_of t k) == p) (enter slot_by key (entries t dir)) ≡ with_last (in_slot t dir) (slot (name_of t key)) key p) (sym e) (part-enter slot_by key (entries t dir) rising ∙ sym (here (slot (name_of t key))))
          | inr n ↦ part-enter_other slot_by key q (entries t dir) (λ e. n (sym e)) ∙ sym (there q n)
        ]
      where
        here : (p : ℕ) → with_last (in_slot t dir) p key p ≡ in_slot t dir p ++ key ∷ []
        here p = rw (eq-eqb p p refl) refl

        there : (p : ℕ) → (p ≡ slot (name_of t key) → ⊥) → with_last (in_slot t dir) (slot (name_of t key)) key p ≡ in_slot t dir p
        there p n = rw (ne_eqb p (slot (name_of t key)) n) refl

    -- a removed key is in no hash chain
    pub slots_left : (q : ℕ) → in_slot (listed moment dir (filter (is_not key) (entries t dir)) t) dir q ≡ without (in_slot t dir) key q
    slots_left q =
        by_list (filter (is_not key) (entries t dir)) dir q
        ∙ ap (filter (λ k. slot (name_of t k) == q)) (listed_here moment dir (filter (is_not key) (entries t dir)) t a at)
        ∙ filter-swap (λ k. slot (name_of t k) == q) (is_not key) (entries t dir)

-- a change of a loose key's node changes no hash chain
pub slots_beside : (t : Tree) (key : ℕ) (loose : Loose t key) (o : Option Node) (same_list : entries_in (option_map (λ node. node.content) o) ≡ entries t key) (d q : ℕ) → in_slot (with_node key o t) d q ≡ in_slot t d q
slots_beside t key loose o same_list d q =
    ap (filter (λ k. slot (name_of (with_node key o t) k) == q)) (entries_with t key loose o same_list d)
    ∙ filter_same (λ k. slot (name_of (with_node key o t) k) == q) (λ k. slot (name_of t k) == q) (entries t d) (λ k m. ap (λ (name : List ℕ). slot name == q) (name_other t key loose o same_list k (not_key t key loose o same_list d k m)))
