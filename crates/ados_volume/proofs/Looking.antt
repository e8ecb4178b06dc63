-- The tree, in terms of the hash chains, files and longs of its image.
use Rattle.ados_volume.proofs.Common.{Bool, Contains, Contains-append_right, Contains-cases, Contains-here, Contains-later, Contains-nil, Content, Directory, Entry, FILE_TYPE, File, FindsNamed, InChains, IsSome, LawfulChains, List, Node, None, Option, Same, Some, Stands, Tree, [], ap, append-nil, arith, behind, behind-later, bytes_eq, bytes_eq-Decides, chains_from, chains_from-split, child_of, content_at, content_in, entries, entries_after, entries_by_slot, entries_of, entry-in_chains, entry_node, eq-eqb, false, false≢true, find, first-entry, first_left, holds_file, in_slot, inl, inr, is_file, long, map, name_at, name_of, nat_eq, refl, root, root_or_parent, slot, some_in, subst, suc, sym, true, type_of, upper, zero, zero-add, ℕ, ◌++◌, ◌+◌, ◌==◌, ◌∙◌, ◌∷◌, ◌≡◌}
use Rattle.ados_name.specs.Path.{SameNameSameSlot}
use Rattle.ados_chain.proofs.Found.{listed_same}
use Rattle.ados_model.proofs.Lists.{joined}
use Rattle.ados_volume.proofs.Bridge.{lawful_chains, name_is}
use Rattle.ados_change.proofs.Entering.{Contains-part, Contains-passes}

-- `find` returns the only element that passes
find_one : (p : ℕ → Bool) (xs : List ℕ) (x : ℕ) → Contains xs x → p x ≡ true → ((y : ℕ) → Contains xs y → p y ≡ true → y ≡ x) → find p xs ≡ Some x
find_one p [] x c e one = absurd (Contains-nil x c)
find_one p (y ∷ ys) x c e one = go (p y) refl (λ m. find_one p ys x m e (λ z n. one z (Contains-later y ys z n)))
  where
    go : (b : Bool) → p y ≡ b → (Contains ys x → find p ys ≡ Some x) → find p (y ∷ ys) ≡ Some x
    go true h rest = rw h (ap Some (one y (Contains-here y ys) h))
    go false h rest = rw h (elim (Contains-cases y ys x c) [ inl same ↦ absurd (false≢true (sym h ∙ ap p same ∙ e)) | inr later ↦ rest later ])

find_none : (p : ℕ → Bool) (xs : List ℕ) → ((y : ℕ) → Contains xs y → p y ≡ true → ⊥) → find p xs ≡ None
find_none p [] none = refl
find_none p (y ∷ ys) none = go (p y) refl (find_none p ys (λ z n. none z (Contains-later y ys z n)))
  where
    go : (b : Bool) → p y ≡ b → find p ys ≡ None → find p (y ∷ ys) ≡ None
    go true h rest = absurd (none y (Contains-here y ys) h)
    go false h rest = rw h rest

-- concatenated lists are the chains from the first on
joined-chains : (g : ℕ → List ℕ) (n : ℕ) → joined g n ≡ chains_from g 0 n
unfolding joined chains_from
joined-chains g zero = refl
joined-chains g (suc n) =
    let more : n + 1 ≡ suc n = omega arith in
    ap (λ (xs : List ℕ). xs ++ g n) (joined-chains g n)
    ∙ ap (λ (k : ℕ). chains_from g 0 n ++ g k) (sym (zero-add n))
    ∙ ap (λ (ys : List ℕ). chains_from g 0 n ++ ys) (sym (append-nil (g (0 + n))))
    ∙ sym (chains_from-split g 0 n 1)
    ∙ ap (chains_from g 0) more

-- what follows a key is an entry
pub next_listed : (t : Tree) (dir key next : ℕ) → first_left (entries_after t dir key) ≡ Entry next → Contains (entries t dir) next
next_listed t dir key next e =
    let f = first-entry (entries_after t dir key) next e in
    behind-later dir (entries t dir) key next f.0 f.1

module _ (image : List ℕ) (t : Tree) (s : Stands image t) where
  pub chains_of : (dir : ℕ) → (keys : List ℕ) × (content_at t dir ≡ Some (Directory keys)) → LawfulChains image dir (in_slot t dir)
  chains_of dir h = let n = content_in (t.nodes dir) (Directory h.0) h.1 in lawful_chains image t s dir n.0 h.0 n.1 n.2

  -- ---- a child

  own_name : (key : ℕ) (node : Node) → t.nodes key ≡ Some node → node.name ≡ name_of t key
  own_name key node e = rw e refl

  named_same : (dir key : ℕ) → Contains (entries t dir) key → name_at image key ≡ name_of t key
  named_same dir key c = let n = entry_node t s.proper dir key c in name_is image t s key n.0 n.1 ∙ own_name key n.0 n.1

  is_named : List ℕ → ℕ → Bool
  is_named name key = bytes_eq (map upper (name_of t key)) (map upper name)

  same_from_named : (name : List ℕ) (key : ℕ) → is_named name key ≡ true → Same (name_of t key) name
  unfolding is_named
  same_from_named name key e = (bytes_eq-Decides (map upper (name_of t key)) (map upper name)).0 e

  named_from_same : (name : List ℕ) (key : ℕ) → Same (name_of t key) name → is_named name key ≡ true
  unfolding is_named
  named_from_same name key same = (bytes_eq-Decides (map upper (name_of t key)) (map upper name)).1 same

  -- an entry with the name is in the name's slot
  in_own_slot : SameNameSameSlot → (dir key : ℕ) (name : List ℕ) → Contains (entries t dir) key → Same (name_of t key) name → Contains (in_slot t dir (slot name)) key
  in_own_slot law dir key name c same = Contains-passes (λ k. slot (name_of t k) == slot name) (entries t dir) key c (eq-eqb (slot (name_of t key)) (slot name) (law (name_of t key) name same))

  -- the directory has a child with this name
  pub is_child : (dir key : ℕ) (name : List ℕ) → Contains (entries t dir) key → Same (name_of t key) name → child_of t dir name ≡ Some key
  unfolding is_named
  is_child dir key name c same =
      find_one (is_named name) (entries t dir) key c (named_from_same name key same)
      (λ y m e. s.proper.unlike dir y key m c (same_from_named name y e ∙ sym same))

  -- the directory has no child with this name
  pub no_child : (dir : ℕ) (name : List ℕ) → ((key : ℕ) → Contains (entries t dir) key → ¬ Same (name_of t key) name) → child_of t dir name ≡ None
  unfolding is_named
  no_child dir name none = find_none (is_named name) (entries t dir) (λ y c e. none y c (same_from_named name y e))

  pub child_is : SameNameSameSlot → (dir : ℕ) (name : List ℕ) (r : Option ℕ) → FindsNamed image name (in_slot t dir (slot name)) r → r ≡ child_of t dir name
  child_is law dir name None h =
      sym (no_child dir name (λ key c same. h key (in_own_slot law dir key name c same) (subst (λ (xs : List ℕ). Same xs name) (sym (named_same dir key c)) same)))
  child_is law dir name (Some key) h =
      let listed : Contains (in_slot t dir (slot name)) key = subst (λ (xs : List ℕ). Contains xs key) (sym h.split) (Contains-append_right h.front (key ∷ h.back) key (Contains-here key h.back)) in
      let entry = Contains-part (λ k. slot (name_of t k) == slot name) (entries t dir) key listed in
      sym (is_child dir key name entry (subst (λ (xs : List ℕ). Same xs name) (named_same dir key entry) h.same))

  -- ---- the entries in order

  pub entries_are : (dir : ℕ) → entries_of (in_slot t dir) ≡ entries t dir
  entries_are dir = sym (joined-chains (in_slot t dir) 72) ∙ sym (entries_by_slot t s.proper dir)

  pub next_is : (dir key : ℕ) → first_left (behind key (dir ∷ entries_of (in_slot t dir))) ≡ first_left (entries_after t dir key)
  next_is dir key = ap (λ (keys : List ℕ). first_left (behind key (dir ∷ keys))) (entries_are dir)

  -- an entry is in one of the hash chains
  pub listed_in_chains : (dir key : ℕ) → (keys : List ℕ) × (content_at t dir ≡ Some (Directory keys)) → Contains (entries t dir) key → (chains : ℕ → List ℕ) → LawfulChains image dir chains → InChains chains key
  listed_in_chains dir key directory c chains h =
      listed_same image dir key (in_slot t dir) chains (chains_of dir directory) h
      (entry-in_chains (in_slot t dir) key (subst (λ (keys : List ℕ). Contains keys key) (sym (entries_are dir)) c))

  -- ---- a file

  pub is_file_is : (key v : ℕ) → IsSome (t.nodes key) → v ≡ long image key 127 → nat_eq v FILE_TYPE ≡ is_file t key
  is_file_is key v h e =
      let n = some_in (t.nodes key) h in
      rw n.1 (elim (root_or_parent t s.proper key n.0 n.1) [
        | inl r ↦
            let same : n.0 ≡ s.proper.root_node.0 = cc (n.1, ap t.nodes r, s.proper.root_node.1) in
            let directory : n.0.content ≡ Directory s.proper.root_node.2.keys = ap (λ (a : Node). a.content) same ∙ s.proper.root_node.2.directory in
            let one : v ≡ 1 = e ∙ ap (λ (b : ℕ). long image b 127) r ∙ s.root_fields.secondary in
            rw (directory, one) refl
        | inr p ↦ by_content n.0.content (e ∙ (s.entries key p.0 n.0 n.1 p.1).secondary)
      ])
    where
      by_content : (c : Content) → v ≡ type_of c → nat_eq v FILE_TYPE ≡ holds_file (Some c)
      by_content (Directory keys) is = rw is refl
      by_content (File bytes) is = rw is refl

  -- ---- the root

  pub root_directory : (key : ℕ) → key ≡ root t → (keys : List ℕ) × (content_at t key ≡ Some (Directory keys))
  root_directory key r =
      let at : t.nodes key ≡ Some s.proper.root_node.0 = ap t.nodes r ∙ s.proper.root_node.1 in
      (s.proper.root_node.2.keys, rw at (ap Some s.proper.root_node.2.directory))

  pub root_key_of : (key : ℕ) → key ≡ root t → IsSome (t.nodes key)
  root_key_of key r = let at : t.nodes key ≡ Some s.proper.root_node.0 = ap t.nodes r ∙ s.proper.root_node.1 in rw at refl
