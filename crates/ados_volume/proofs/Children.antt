-- Cached children after a change of the tree.
use Rattle.ados_volume.proofs.Common.{AreChildren, AreListed, AreWhole, BTreeMap, BTreeSet, Contains, HasPair, List, Node, None, Option, Same, Some, Sought, Stands, Tree, ap, bytes_eq-Decides, cases_eq, changed, child_of, entries, entries_in, eq-eqb, inl, inr, map, name_in, name_of, ne_eqb, one_tree, option_map, refl, slot, subst, sym, upper, ℕ, ◌∙◌, ◌≡◌, ◌⊎◌}
use Rattle.ados_volume.proofs.Looking.{is_child}
use Rattle.ados_volume.proofs.Walking.{find-is}

-- an entry of the directory is an entry of it in the other tree, with the same name
abbrev pub Stays : Tree → Tree → ℕ → ℕ → Type 0
Stays t u dir key = Contains (entries t dir) key → Contains (entries u dir) key × (name_of u key ≡ name_of t key)

-- this holds for each entry
abbrev pub AllStay : Tree → Tree → Type 0
AllStay t u = (dir key : ℕ) → Stays t u dir key

-- the directories of both trees have the same entries, with the same names
abbrev pub HaveSame : Tree → Tree → Type 0
HaveSame t u = AllStay t u × AllStay u t

-- a child is an entry of that name
pub child_there : (t : Tree) (dir key : ℕ) (name : List ℕ) → child_of t dir name ≡ Some key → Contains (entries t dir) key × Same (name_of t key) name
child_there t dir key name e = let f = find-is _ (entries t dir) key e in (f.0, (bytes_eq-Decides (map upper (name_of t key)) (map upper name)).0 f.1)

module _ (old new : List ℕ) (t u : Tree) (stands : Stands old t) (r : Stands new u) where
  child_stays : (dir key : ℕ) (name : List ℕ) → Stays t u dir key → child_of t dir name ≡ Some key → child_of u dir name ≡ Some key
  child_stays dir key name stays e =
      let was = child_there t dir key name e in
      let now = stays was.0 in
      is_child new u r dir key name now.0 (ap (map upper) now.1 ∙ was.1)

  -- pairs that were children are children of the new tree, if their entries stay
  pub carried : (old_pairs pairs : BTreeMap Sought ℕ) → AreChildren old old_pairs
      → ((dir key : ℕ) (name : List ℕ) → HasPair pairs dir name key → HasPair old_pairs dir name key × (child_of t dir name ≡ Some key → Stays t u dir key)) → AreChildren new pairs
  carried old_pairs pairs h from dir name key p v w =
      let c = from dir key name p in
      let child = h dir name key c.0 t stands in
      subst (λ (x : Tree). child_of x dir name ≡ Some key) (one_tree new u v r w) (child_stays dir key name (c.1 child) child)

  -- a slot whose entries in the new tree have pairs is whole
  pub whole_carried : (old_pairs pairs : BTreeMap Sought ℕ) (whole : BTreeSet ℕ) → AreWhole old old_pairs whole
      → ((dir key : ℕ) → Contains (entries u dir) key → ((Contains (entries t dir) key × (name_of t key ≡ name_of u key)) × (HasPair old_pairs dir (name_of t key) key → HasPair pairs dir (name_of t key) key)) ⊎ HasPair pairs dir (name_of u key) key)
      → AreWhole new pairs whole
  whole_carried old_pairs pairs whole h from dir s small mark v w key c e =
      let same : v ≡ u = one_tree new v u w r in
      subst (λ (x : Tree). HasPair pairs dir (name_of x key) key) (sym same) (in_tree (subst (λ (x : Tree). Contains (entries x dir) key) same c) (subst (λ (x : Tree). slot (name_of x key) ≡ s) same e))
    where
      in_tree : Contains (entries u dir) key → slot (name_of u key) ≡ s → HasPair pairs dir (name_of u key) key
      in_tree d f = elim (from dir key d) [
        | inl was ↦ subst (λ (name : List ℕ). HasPair pairs dir name key) was.0.1 (was.1 (h dir s small mark t stands key was.0.0 (ap slot was.0.1 ∙ f)))
        | inr now ↦ now
      ]

  -- entries that stay are entries in the new tree
  pub told_stay : (told : List (ℕ × ℕ)) → AreListed old told → AllStay t u → AreListed new told
  told_stay told listed stay dir key c v w = subst (λ (x : Tree). Contains (entries x dir) key) (one_tree new u v r w) (stay dir key (listed dir key c t stands)).0

-- ---- one node changes

module _ (t : Tree) (key : ℕ) (f : Node → Node) (lists : (a : Node) → t.nodes key ≡ Some a → entries_in (Some (f a).content) ≡ entries_in (Some a.content))
    (names : (dir : ℕ) (a : Node) → Contains (entries t dir) key → t.nodes key ≡ Some a → (f a).name ≡ a.name) where
  entries_here : entries (changed key f t) key ≡ entries t key
  entries_here = rw (eq-eqb key key refl) (go (t.nodes key) refl)
    where
      go : (o : Option Node) → t.nodes key ≡ o → entries_in (option_map (λ node. node.content) (option_map f o)) ≡ entries_in (option_map (λ node. node.content) o)
      go None e = refl
      go (Some a) e = lists a e

  entries_same : (dir : ℕ) → entries (changed key f t) dir ≡ entries t dir
  entries_same dir = elim (cases_eq dir key) [
    | inl e ↦ ap (entries (changed key f t)) e ∙ entries_here ∙ ap (entries t) (sym e)
    | inr n ↦ rw (ne_eqb dir key n) refl
  ]

  name_here : (dir : ℕ) → Contains (entries t dir) key → name_of (changed key f t) key ≡ name_of t key
  name_here dir c = rw (eq-eqb key key refl) (go (t.nodes key) refl)
    where
      go : (o : Option Node) → t.nodes key ≡ o → name_in (option_map f o) ≡ name_in o
      go None e = refl
      go (Some a) e = names dir a c e

  name_same : (dir k : ℕ) → Contains (entries t dir) k → name_of (changed key f t) k ≡ name_of t k
  name_same dir k c = elim (cases_eq k key) [
    | inl e ↦ ap (name_of (changed key f t)) e ∙ name_here dir (subst (Contains (entries t dir)) e c) ∙ ap (name_of t) (sym e)
    | inr n ↦ rw (ne_eqb k key n) refl
  ]

  -- the entries are the same if the list and the entry's name are
  pub changed_same : HaveSame t (changed key f t)
  changed_same = (
    λ dir k c. (subst (λ (keys : List ℕ). Contains keys k) (sym (entries_same dir)) c, name_same dir k c),
    λ dir k c. let was = subst (λ (keys : List ℕ). Contains keys k) (entries_same dir) c in (was, sym (name_same dir k was)),
  )
