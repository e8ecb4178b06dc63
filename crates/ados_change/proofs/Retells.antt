-- A tree with one node replaced: the parts that the lists of entries depend on are unchanged.
use Rattle.ados_change.proofs.Common.{content_in, ◌≡◌, ◌≢◌, ℕ, inl, inr, [], Contains, Option, Some, is_some, option_map, option_and_then, refl, sym, ap, ◌∙◌, subst, eq-eqb, ne_eqb, cases_eq, Date3, IsName, IsComment, Node, Tree, Proper, IsRoot, root, content_at, entries_in, entries, name_of, parent_of, name_in, in_slot, stamped, with_node, ◌+◌, ◌/◌, ◌<◌, ◌≤◌, ◌⊎◌, List, length, arith, long, block_sum, HasText, Chained, protection, table_entry, COMMENT_BYTE, NAME_BYTE, NEXT_IN_CHAIN, SameBut, same_weaken, Stands, HasNode, HasEntry, type_of, date_at, size_in, Chained-kept}
use Rattle.ados_change.proofs.SameLists.{proper_alike, slots_alike}
use Rattle.ados_change.proofs.Unchanged.{AtLongs, long-kept, sum-kept}
use Rattle.ados_change.proofs.Loose.{proper_is_loose, spells, stands, parent_not_root}
use Rattle.ados_change.proofs.Reframed.{TellsOnly, first_kept, date_stays, node_stays, entry_stays, reframed}

-- the tree with this node at a key, and this disk date
abbrev pub retold : ℕ → Node → Date3 → Tree → Tree
retold key after d t = stamped d (with_node key (Some after) t)

-- the node of the key can be replaced, and the disk date too: parent and content stay the same, the name except for
-- the root, and the disk date unless the key is the root
pub record Retells (t : Tree) (key : ℕ) (node after : Node) (d : Date3) : Type 0 where
  pub at : t.nodes key ≡ Some node
  pub parent : after.parent ≡ node.parent
  pub content : after.content ≡ node.content
  pub name : IsName after.name
  pub comment : IsComment after.comment
  pub same_name : key ≢ root t → after.name ≡ node.name
  pub same_disk : key ≢ root t → d ≡ t.disk_date
  pub no_protection : key ≡ root t → after.protection ≡ 0
  pub no_comment : key ≡ root t → after.comment ≡ []

-- the root is not an entry
pub entry_not_root : (t : Tree) → Proper t → (dir k : ℕ) → Contains (entries t dir) k → k ≢ root t
entry_not_root t p dir k c = parent_not_root t p.root_node k dir ((p.listed dir k).0 c)

module _ (t : Tree) (key : ℕ) (node after : Node) (d : Date3) (r : Retells t key node after d) where
  abbrev u : Tree
  u = retold key after d t

  pub at_key : (k : ℕ) → k ≡ key → u.nodes k ≡ Some after
  at_key k e = rw (eq-eqb k key e) refl

  pub at_other : (k : ℕ) → k ≢ key → u.nodes k ≡ t.nodes k
  at_other k n = rw (ne_eqb k key n) refl

  was_key : (k : ℕ) → k ≡ key → t.nodes k ≡ Some node
  was_key k e = ap t.nodes e ∙ r.at

  -- what is the same for the two nodes is the same at each key
  same_of : {A : Type 0} (f : Option Node → A) (k : ℕ) → (k ≡ key → f (Some after) ≡ f (Some node)) → f (u.nodes k) ≡ f (t.nodes k)
  same_of f k same = elim (cases_eq k key) [
    | inl e ↦ ap f (at_key k e) ∙ same e ∙ sym (ap f (was_key k e))
    | inr n ↦ ap f (at_other k n)
  ]

  pub contents : (k : ℕ) → content_at u k ≡ content_at t k
  contents k = same_of (option_map (λ (a : Node). a.content)) k (λ e. ap Some r.content)

  parents : (k : ℕ) → parent_of u k ≡ parent_of t k
  parents k = same_of (option_and_then (λ (a : Node). a.parent)) k (λ e. r.parent)

  entries_same : (dir : ℕ) → entries u dir ≡ entries t dir
  entries_same dir = ap entries_in (contents dir)

  -- the node that a node comes from
  pub was : (k : ℕ) (a : Node) → u.nodes k ≡ Some a → (b : Node) × (t.nodes k ≡ Some b) × (b.content ≡ a.content)
  was k a e = content_in (t.nodes k) a.content (sym (contents k) ∙ ap (option_map (λ (b : Node). b.content)) e)

  module _ (p : Proper t) where
    listed_names : (dir k : ℕ) → Contains (entries t dir) k → name_of u k ≡ name_of t k
    listed_names dir k c = same_of name_in k (λ e. r.same_name (λ z. (entry_not_root t p dir k c) (e ∙ z)))

    pub slots_same : (dir s : ℕ) → in_slot u dir s ≡ in_slot t dir s
    slots_same = slots_alike t u.nodes d parents entries_same listed_names

    root_after : (a : Node) × (u.nodes (root t) ≡ Some a) × IsRoot a
    root_after = elim (cases_eq (root t) key) [
      | inl q ↦
          let m = p.root_node in
          let same : node ≡ p.root_node.0 = cc (was_key (root t) q, p.root_node.1) in (
            after,
            at_key (root t) q,
            record {
              no_parent = r.parent ∙ ap (λ (a : Node). a.parent) same ∙ p.root_node.2.no_parent;
              no_protection = r.no_protection (sym q);
              no_comment = r.no_comment (sym q);
              keys = p.root_node.2.keys;
              directory = r.content ∙ ap (λ (a : Node). a.content) same ∙ p.root_node.2.directory;
            },
          )
      | inr n ↦ (p.root_node.0, at_other (root t) n ∙ p.root_node.1, p.root_node.2)
    ]

    -- a fact about the nodes' names or comments
    of_each : (P : Node → Type 0) → P after → ((k : ℕ) (a : Node) → t.nodes k ≡ Some a → P a) → (k : ℕ) (a : Node) → u.nodes k ≡ Some a → P a
    of_each P here there k a e = elim (cases_eq k key) [
      | inl q ↦ let same : after ≡ a = cc (at_key k q, e) in subst P same here
      | inr n ↦ there k a (sym (at_other k n) ∙ e)
    ]

    pub proper_after : Proper u
    proper_after =
        proper_alike t u.nodes d parents entries_same listed_names p root_after (λ k a e. let w = was k a e in (w.0, w.1))
        (of_each (λ (a : Node). IsName a.name) r.name p.name) (of_each (λ (a : Node). IsComment a.comment) r.comment p.comment)

-- ---- an image with a changed block of one key represents the tree with that key's new node

-- byte i of a key's block depends only on the new node: it is in the checksum, the date, the root's name or disk date,
-- or another node's protection or comment
pub data Telling (t : Tree) (key : ℕ) (after : Node) (i : ℕ) : Type 0 where
  sum : i / 4 ≡ 5 → Telling t key after i
  date : 420 ≤ i → i < 432 → Telling t key after i
  root_name : key ≡ root t → 432 ≤ i → i < 433 + length after.name → Telling t key after i
  disk_date : key ≡ root t → 472 ≤ i → i < 484 → Telling t key after i
  bits : key ≢ root t → 320 ≤ i → i < 324 → Telling t key after i
  comment : key ≢ root t → 328 ≤ i → i < 329 + length after.comment → Telling t key after i

-- these bytes of that block
abbrev pub Tells : Tree → ℕ → Node → ℕ → ℕ → Type 0
Tells t key after b i = (b ≡ key) × Telling t key after i

-- only these bytes changed, and the block of the key has the fields of this node, that of the root the disk date as
-- well
pub record Retold (t : Tree) (key : ℕ) (after : Node) (d : Date3) (old new : List ℕ) : Type 0 where
  pub rest : SameBut (Tells t key after) old new
  pub sum : block_sum new key ≡ 0
  pub name : HasText new key NAME_BYTE after.name
  pub date : date_at new key 105 ≡ after.date
  pub bits : key ≢ root t → protection new key ≡ after.protection
  pub comment : key ≢ root t → HasText new key COMMENT_BYTE after.comment
  pub disk : key ≡ root t → date_at new key 118 ≡ d

module _ (old new : List ℕ) (t : Tree) (key : ℕ) (node after : Node) (d : Date3) (s : Stands old t) (r : Retells t key node after d) (h : Retold t key after d old new) where
  -- the longs of these bytes: the checksum, the date, the name or the disk date, and outside the root protection and
  -- comment
  abbrev W : ℕ → ℕ → Type 0
  W b j = (b ≡ key) × ((j ≡ 5) ⊎ (((105 ≤ j) × (j < 121)) ⊎ ((key ≢ root t) × (80 ≤ j) × (j < 104) × (j ≢ 81))))

  change : SameBut (AtLongs W) old new
  change = same_weaken (Tells t key after) (AtLongs W) old new (λ b i w. (w.0, place i w.1)) h.rest
    where
      place : (i : ℕ) → Telling t key after i → (i / 4 ≡ 5) ⊎ (((105 ≤ i / 4) × (i / 4 < 121)) ⊎ ((key ≢ root t) × (80 ≤ i / 4) × (i / 4 < 104) × (i / 4 ≢ 81)))
      place i (sum e) = inl e
      place i (date l m) = inr (inl (omega (arith, l), omega (arith, m)))
      place i (root_name e l m) = let short = r.name.short in inr (inl (omega (arith, l), omega (arith, m, short)))
      place i (disk_date e l m) = inr (inl (omega (arith, l), omega (arith, m)))
      place i (bits n l m) = inr (inr (n, omega (arith, l), omega (arith, m), λ z. omega (arith, m, z)))
      place i (comment n l m) = let short = r.comment.short in inr (inr (n, omega (arith, l), omega (arith, m, short), λ z. omega (arith, l, z)))

  tells : TellsOnly t W
  tells = record {
    of_key = λ b j w. ap is_some (ap t.nodes w.0 ∙ r.at);
    telling = λ b j w. elim (w.1) [ inl e ↦ inl e | inr (inl x) ↦ inr (inr (inr (inl x))) | inr (inr x) ↦ inr (inr (inl (λ e. x.0 (sym w.0 ∙ e), x.1, x.2, x.3))) ];
  }

  -- a long of a hash table, or one after the disk date
  kept : (b j : ℕ) → j < 128 → ((6 ≤ j) × (j < 78)) ⊎ (121 ≤ j) → long new b j ≡ long old b j
  kept b j l o = long-kept W old new change b j l (λ w. omega (arith, o, w.1))

  disk_after : date_at new (root t) 118 ≡ d
  disk_after = elim (cases_eq (root t) key) [
    | inl e ↦ ap (λ (b : ℕ). date_at new b 118) e ∙ h.disk (sym e)
    | inr n ↦ date_stays old new t s.layout (spells old t s) (proper_is_loose t s.proper) W tells change (root t) 118 (omega arith) (λ j p q w. n w.0) ∙ s.root_fields.disk_date ∙ sym (r.same_disk (λ e. n (sym e)))
  ]

  node_after : (k : ℕ) (a : Node) → (retold key after d t).nodes k ≡ Some a → HasNode new k a
  node_after k a e = elim (cases_eq k key) [
    | inl q ↦
        let same : after ≡ a = cc (at_key t key node after d r k q, e) in
        let here : HasNode new key after = record {
          primary = first_kept old new t s.layout (spells old t s) (proper_is_loose t s.proper) W tells change key 0 (omega arith) ∙ (s.nodes key node r.at).primary;
          sum = h.sum;
          name = h.name;
          date = h.date;
        } in
        subst (HasNode new k) same (subst (λ (b : ℕ). HasNode new b after) (sym q) here)
    | inr n ↦
        let at = sym (at_other t key node after d r k n) ∙ e in
        let g = s.nodes k a at in
        node_stays old new t s.layout (spells old t s) (proper_is_loose t s.proper) W tells change k a (s.proper.name k a at) (λ j p q w. n w.0) (sum-kept W old new change k (λ j m w. n w.0) ∙ g.sum) g
  ]

  no_root : (dir : ℕ) → node.parent ≡ Some dir → key ≢ root t
  no_root dir p = parent_not_root t s.proper.root_node key dir (rw r.at p)

  entry_after : (k dir : ℕ) (a : Node) → (retold key after d t).nodes k ≡ Some a → a.parent ≡ Some dir → HasEntry new k a dir
  entry_after k dir a e p = elim (cases_eq k key) [
    | inl q ↦
        let same : after ≡ a = cc (at_key t key node after d r k q, e) in
        let below : node.parent ≡ Some dir = sym r.parent ∙ ap (λ (b : Node). b.parent) same ∙ p in
        let g = s.entries key dir node r.at below in
        let here : HasEntry new key after dir = record {
          key_field = first_kept old new t s.layout (spells old t s) (proper_is_loose t s.proper) W tells change key 1 (omega arith) ∙ g.key_field;
          protection_field = h.bits (no_root dir below);
          comment = h.comment (no_root dir below);
          parent = kept key 125 (omega arith) (inr (omega arith)) ∙ g.parent;
          secondary = kept key 127 (omega arith) (inr (omega arith)) ∙ g.secondary ∙ ap type_of (sym r.content);
        } in
        subst (λ (b : Node). HasEntry new k b dir) same (subst (λ (b : ℕ). HasEntry new b after dir) (sym q) here)
    | inr n ↦
        let at = sym (at_other t key node after d r k n) ∙ e in
        entry_stays old new t s.layout (spells old t s) (proper_is_loose t s.proper) W tells change k dir a (s.proper.comment k a at) (λ j m o w. n w.0) (λ w. n w.0) (s.entries k dir a at p)
  ]

  pub stands_retold : Stands new (retold key after d t)
  stands_retold =
      stands new (retold key after d t) s.layout (proper_after t key node after d r s.proper)
      (reframed old new t s.layout (spells old t s) (proper_is_loose t s.proper) W tells change (retold key after d t).nodes d
      (record {
        same_keys = λ k. same_of t key node after d r is_some k (λ e. refl);
        was_file = λ k a bytes e c. let w = was t key node after d r k a e in (w.0, w.1, w.2 ∙ c);
        same_size = λ d' k. ap size_in (contents t key node after d r k);
      })
      disk_after node_after (λ k dir a e p. entry_after k dir a e p)
      (λ dir a keys q e c l.
      let w = was t key node after d r dir a e in
      subst (λ (xs : List ℕ). Chained new NEXT_IN_CHAIN (table_entry new dir q) xs) (sym (slots_same t key node after d r s.proper dir q))
      (subst (λ (first : ℕ). Chained new NEXT_IN_CHAIN first (in_slot t dir q)) (sym (kept dir (6 + q) (omega (arith, l)) (inl (omega arith, omega (arith, l)))))
      (Chained-kept old new NEXT_IN_CHAIN (table_entry old dir q) (in_slot t dir q) (λ b m. kept b NEXT_IN_CHAIN (omega arith) (inr (omega arith))) (s.chains dir w.0 keys q w.1 (w.2 ∙ c) l)))))
