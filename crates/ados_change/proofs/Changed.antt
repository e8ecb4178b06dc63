-- The nodes of a changed tree.
use Rattle.ados_change.proofs.Common.{◌≡◌, ◌≢◌, ℕ, ◌⊎◌, inl, inr, List, Option, Some, None, is_some, IsSome, option_map, option_and_then, refl, sym, ap, ◌∙◌, subst, eq-eqb, ne_eqb, cases_eq, slot, Date3, Content, Node, Tree, entries, entries_in, name_of, parent_of, name_in, Directory, with_node, changed, enter, listed, made, new_node, content_at, File}

pub nodes_here : (key : ℕ) (o : Option Node) (t : Tree) → (with_node key o t).nodes key ≡ o
nodes_here key o t = rw (eq-eqb key key refl) refl

pub nodes_other : (key : ℕ) (o : Option Node) (t : Tree) (k : ℕ) → k ≢ key → (with_node key o t).nodes k ≡ t.nodes k
nodes_other key o t k n = rw (ne_eqb k key n) refl

-- trees that differ in no node are equal
pub same_nodes : (t : Tree) (nodes nodes' : ℕ → Option Node) → ((k : ℕ) → nodes k ≡ nodes' k) → record t { nodes = nodes } ≡ record t { nodes = nodes' }
same_nodes t nodes nodes' same = λ i. record t { nodes = λ k. same k i }

-- a tree with the node that it has
pub same_with : (key : ℕ) (o : Option Node) (t : Tree) → t.nodes key ≡ o → with_node key o t ≡ t
same_with key o t at = same_nodes t (with_node key o t).nodes t.nodes (λ k. elim (cases_eq k key) [
  | inl e ↦ ap (with_node key o t).nodes e ∙ nodes_here key o t ∙ sym (ap t.nodes e ∙ at)
  | inr n ↦ nodes_other key o t k n
])

-- what a change of a node leaves untouched
pub changed_keeps : {X : Type 0} (p : Option Node → X) (f : Node → Node) (key : ℕ) (t : Tree) → ((o : Option Node) → p (option_map f o) ≡ p o) → (k : ℕ) → p ((changed key f t).nodes k) ≡ p (t.nodes k)
changed_keeps p f key t same k = elim (cases_eq k key) [
  | inl e ↦ ap (λ (i : ℕ). p ((changed key f t).nodes i)) e ∙ ap p (nodes_here key (option_map f (t.nodes key)) t) ∙ same (t.nodes key) ∙ ap (λ (i : ℕ). p (t.nodes i)) (sym e)
  | inr n ↦ ap p (nodes_other key (option_map f (t.nodes key)) t k n)
]

-- what holds of each node holds of an absent one
pub each_keeps : {X : Type 0} (p : Option Node → X) (f : Node → Node) → ((a : Node) → p (Some (f a)) ≡ p (Some a)) → (o : Option Node) → p (option_map f o) ≡ p o
each_keeps p f same None = refl
each_keeps p f same (Some a) = same a

-- the node that a node of the changed tree comes from
pub record Was (f : Node → Node) (key : ℕ) (t : Tree) (k : ℕ) (node : Node) : Type 0 where
  pub old : Node
  pub at : t.nodes k ≡ Some old
  pub how : ((k ≢ key) × (node ≡ old)) ⊎ ((k ≡ key) × (node ≡ f old))

pub was : (f : Node → Node) (key : ℕ) (t : Tree) (k : ℕ) (node : Node) → (changed key f t).nodes k ≡ Some node → Was f key t k node
was f key t k node e = elim (cases_eq k key) [
  | inl d ↦ here d (t.nodes key) refl (sym (nodes_here key (option_map f (t.nodes key)) t) ∙ ap (changed key f t).nodes (sym d) ∙ e)
  | inr n ↦ record { old = node; at = sym (nodes_other key (option_map f (t.nodes key)) t k n) ∙ e; how = inl (n, refl) }
]
  where
    here : k ≡ key → (o : Option Node) → t.nodes key ≡ o → option_map f o ≡ Some node → Was f key t k node
    here d None at h = absurd (cc h)
    here d (Some a) at h = record { old = a; at = ap t.nodes d ∙ at; how = inr (d, sym (cc h)) }

-- a property of all nodes that the change preserves
pub was_with : (P : Node → Type 0) (f : Node → Node) (key : ℕ) (t : Tree) (k : ℕ) (node : Node) → ((a : Node) → P a → P (f a)) → (w : Was f key t k node) → P w.old → P node
was_with P f key t k node keeps w h = elim (w.how) [
  | inl e ↦ subst P (sym e.1) h
  | inr e ↦ subst P (sym e.1) (keeps w.old h)
]

-- a directory with this list and date
abbrev pub relisted : Date3 → List ℕ → Node → Node
relisted moment keys node = record node { content = Directory keys; date = moment }

-- a file of the tree with a new list is a file of the tree
pub listed_file : (moment : Date3) (dir : ℕ) (keys : List ℕ) (t : Tree) (file : ℕ) (bytes : List ℕ) → content_at (listed moment dir keys t) file ≡ Some (File bytes) → content_at t file ≡ Some (File bytes)
listed_file moment dir keys t file bytes is = elim (cases_eq file dir) [
  | inr n ↦ sym (ap (option_map (λ (a : Node). a.content)) (nodes_other dir (option_map (relisted moment keys) (t.nodes dir)) t file n)) ∙ is
  | inl e ↦
      let here = ap (listed moment dir keys t).nodes e ∙ nodes_here dir (option_map (relisted moment keys) (t.nodes dir)) t in
      absurd (none (t.nodes dir) (sym (ap (option_map (λ (a : Node). a.content)) here) ∙ is))
]
  where
    none : (o : Option Node) → option_map (λ (a : Node). a.content) (option_map (relisted moment keys) o) ≡ Some (File bytes) → ⊥
    none None e = cc e
    none (Some a) e = let other : Some (Directory keys) ≡ Some (File bytes) = e in cc other

-- the parent of a node
abbrev pub parent_field : Option Node → Option ℕ
parent_field o = option_and_then (λ node. node.parent) o

module _ (moment : Date3) (dir : ℕ) (keys : List ℕ) (t : Tree) where
  pub listed_names : (k : ℕ) → name_of (listed moment dir keys t) k ≡ name_of t k
  listed_names = changed_keeps name_in (relisted moment keys) dir t (each_keeps name_in (relisted moment keys) (λ a. refl))

  pub listed_parents : (k : ℕ) → parent_of (listed moment dir keys t) k ≡ parent_of t k
  listed_parents = changed_keeps parent_field (relisted moment keys) dir t (each_keeps parent_field (relisted moment keys) (λ a. refl))

  pub listed_here : (a : Node) → t.nodes dir ≡ Some a → entries (listed moment dir keys t) dir ≡ keys
  listed_here a e = ap (λ (o : Option Node). entries_in (option_map (λ node. node.content) o)) (nodes_here dir (option_map (relisted moment keys) (t.nodes dir)) t ∙ ap (option_map (relisted moment keys)) e)

  pub listed_other : (d : ℕ) → d ≢ dir → entries (listed moment dir keys t) d ≡ entries t d
  listed_other d n = ap (λ (o : Option Node). entries_in (option_map (λ node. node.content) o)) (nodes_other dir (option_map (relisted moment keys) (t.nodes dir)) t d n)

  -- a property of the new list and of all other lists
  pub each_list : (P : ℕ → List ℕ → Type 0) (a : Node) → t.nodes dir ≡ Some a → P dir keys → ((d : ℕ) → d ≢ dir → P d (entries t d)) → (d : ℕ) → P d (entries (listed moment dir keys t) d)
  each_list P a e here there d = elim (cases_eq d dir) [
    | inl same ↦ subst (λ (i : ℕ). P i (entries (listed moment dir keys t) i)) (sym same) (subst (P dir) (sym (listed_here a e)) here)
    | inr other ↦ subst (P d) (sym (listed_other d other)) (there d other)
  ]

-- the keys of a directory after an insertion
abbrev with_key : ℕ → ℕ → Tree → List ℕ
with_key dir key t = enter (λ k. slot (name_of t k)) key (entries t dir)

module _ (moment : Date3) (dir key : ℕ) (name : List ℕ) (content : Content) (t : Tree) where
  abbrev making : Tree
  making = with_node key (Some (new_node moment dir name content)) t

  pub made_here : IsSome ((made moment dir key name content t).nodes key)
  made_here = changed_keeps is_some (relisted moment (with_key dir key making)) dir making (each_keeps is_some (relisted moment (with_key dir key making)) (λ a. refl)) key ∙ ap is_some (nodes_here key (Some (new_node moment dir name content)) t)
