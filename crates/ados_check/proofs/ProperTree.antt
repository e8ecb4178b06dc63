-- The tree of the marks is a proper one.
use Rattle.ados_check.proofs.Common.{◌≡◌, ◌≢◌, ℕ, ◌<◌, ◌≤◌, List, [], length, slice_index, AllPairs, Contains, Option, Some, refl, sym, ap, ◌∙◌, subst, arith, ⊤, get_or_default, Contains-get_or, IsImage, text_at, IsSize, block_count, NAME_BYTE, Same, slot, IsName, IsComment, Role, Node, Tree, Proper, LeadsToRoot, entries, name_of, parent_of, name_in, in_slot, InImage, Reached, root_of, root_page, root_slot, directory_slot, next_entry, start, named, joined, Mark, mark_at, IsChecked, IsSound, IsSoundRoot, Data, Entry, Extension, Page, Root, mark_of}
use Rattle.ados_model.specs.Tree.LeadsToRoot.{at_root, by_parent}
use Rattle.ados_check.proofs.Joined.{place_of, Contains-joined, part_of_joined, AllPairs-joined, filter-joined}
use Rattle.ados_check.proofs.Roles.{IsMarkedDirectory, reached_marked, marked_inside, root_role}
use Rattle.ados_check.proofs.RolePlaces.{chain_of, StandsAt, marked_at, marked_stands, one_place, holder_of, long_of}
use Rattle.ados_check.proofs.Texts.{comment_valid}
use Rattle.ados_check.proofs.TreeOf.{keys_of, root_node, tree_of, NodeView, the_root, an_entry, node_view, node_is, entry_of_parent, parent_of_entry, entries_are, directory_of_entry}
use Rattle.ados_check.proofs.UpperNames.{entry_sound}

module _ (image : List ℕ) (marks : List (Option Mark)) (im : IsImage image) (c : IsChecked image marks) where
  abbrev t : Tree
  t = tree_of image marks

  -- ---- the hash chains

  -- an element of a chain is at a position of it
  chain_stands : (dir s : ℕ) → IsMarkedDirectory image marks dir → s < 72 → (x : ℕ) → Contains (chain_of image dir s) x → (k : ℕ) × StandsAt image marks im c (Entry dir s) k x
  chain_stands dir s d l x h = let p = place_of (chain_of image dir s) x h in (p.0, record { within = p.1; here = p.2; holder = (d, l) })

  -- an element of a chain is marked with the chain's slot
  pub chain_marked : (dir s : ℕ) → IsMarkedDirectory image marks dir → s < 72 → (x : ℕ) → Contains (chain_of image dir s) x → (m : Mark) × (mark_at marks x ≡ Some m) × (m.role ≡ Entry dir s)
  chain_marked dir s d l x h =
      let p = chain_stands dir s d l x h in
      (mark_of (Entry dir s) (holder_of image marks im c (Entry dir s) p.0) (long_of image marks im c (Entry dir s) p.0), marked_at image marks im c (Entry dir s) p.0 x p.1, refl)

  -- a block marked with a slot is in its chain
  pub marked_chain : (key : ℕ) (m : Mark) (dir s : ℕ) → mark_at marks key ≡ Some m → m.role ≡ Entry dir s → IsMarkedDirectory image marks dir × (s < 72) × Contains (chain_of image dir s) key
  marked_chain key m dir s e is =
      let at = marked_stands image marks im c key m e in
      let stands : StandsAt image marks im c (Entry dir s) at.0 key = subst (λ (role : Role). StandsAt image marks im c role at.0 key) is at.1 in
      (stands.holder.0, stands.holder.1, subst (Contains (chain_of image dir s)) stands.here (Contains-get_or (chain_of image dir s) at.0 0 stands.within))

  name_is : (key : ℕ) (m : Mark) (dir s : ℕ) → mark_at marks key ≡ Some m → m.role ≡ Entry dir s → name_of t key ≡ text_at image key NAME_BYTE
  name_is key m dir s e is = ap name_in (node_is image marks key m (Entry dir s) e is)

  -- the slot of a name determines the chain
  told : (dir : ℕ) → IsMarkedDirectory image marks dir → (s x : ℕ) → s < 72 → Contains (chain_of image dir s) x → slot (name_of t x) ≡ s
  told dir d s x l h =
      let at = chain_marked dir s d l x h in
      ap slot (name_is x at.0 dir s at.1 at.2) ∙ (entry_sound image marks c.reached x dir (at.0, s, at.1, at.2)).slotted

  -- the entries of a slot are the slot's chain
  pub slot_is : (dir s : ℕ) → IsMarkedDirectory image marks dir → s < 72 → in_slot t dir s ≡ chain_of image dir s
  unfolding keys_of
  slot_is dir s d l =
      let lists = entries_are image marks c dir d in
      rw lists (filter-joined (chain_of image dir) (λ key. slot (name_of t key)) 72 (told dir d) s l)

  -- ---- the entries of a directory

  lists_entries : (dir key : ℕ) → Contains (entries t dir) key → parent_of t key ≡ Some dir
  unfolding keys_of
  lists_entries dir key h =
      let d = directory_of_entry image marks c dir key h in
      let listed : Contains (joined (chain_of image dir) 72) key = subst (λ (keys : List ℕ). Contains keys key) (entries_are image marks c dir d) h in
      let part = part_of_joined (chain_of image dir) 72 key listed in
      let at = chain_marked dir part.0 d part.1 key part.2 in
      parent_of_entry image marks key at.0 dir part.0 at.1 at.2

  is_listed : (dir key : ℕ) → parent_of t key ≡ Some dir → Contains (entries t dir) key
  unfolding keys_of
  is_listed dir key h =
      let e = entry_of_parent image marks key dir h in
      let at = marked_chain key e.0 dir e.1 e.2 e.3 in
      subst (λ (keys : List ℕ). Contains keys key) (sym (entries_are image marks c dir at.0)) (Contains-joined (chain_of image dir) 72 e.1 key at.1 at.2)

  -- a relation that holds within each chain and between any two holds for all entries
  pairs : (R : ℕ → ℕ → Type 0) (dir : ℕ)
      → (IsMarkedDirectory image marks dir → (s : ℕ) → s < 72 → AllPairs R (chain_of image dir s))
      → (IsMarkedDirectory image marks dir → (r s x y : ℕ) → r < s → s < 72 → Contains (chain_of image dir r) x → Contains (chain_of image dir s) y → R x y)
      → AllPairs R (entries t dir)
  unfolding keys_of
  pairs R dir within across = λ i j d l m.
      let is = directory_of_entry image marks c dir _ (Contains-get_or (entries t dir) j d m) in
      (subst (AllPairs R) (sym (entries_are image marks c dir is)) (AllPairs-joined (chain_of image dir) R 72 (within is) (across is))) i j d l m

  chain-once : (dir s : ℕ) → IsMarkedDirectory image marks dir → s < 72 → AllPairs (λ j k. j ≢ k) (chain_of image dir s)
  chain-once dir s d l = λ i j z b m e.
      let k : i < length (chain_of image dir s) = omega arith in
      let same : slice_index (chain_of image dir s) i ≡ slice_index (chain_of image dir s) j = get_or_default (chain_of image dir s) i 0 z k ∙ e ∙ sym (get_or_default (chain_of image dir s) j 0 z m) in
      let places : i ≡ j = one_place image marks im c (Entry dir s) i j (slice_index (chain_of image dir s) j) (record { within = k; here = same; holder = (d, l) }) (record { within = m; here = refl; holder = (d, l) }) in
      omega (arith, places, b)

  chains-apart : (dir : ℕ) → IsMarkedDirectory image marks dir → (r s x y : ℕ) → r < s → s < 72 → Contains (chain_of image dir r) x → Contains (chain_of image dir s) y → x ≢ y
  chains-apart dir d r s x y b l h g e =
      let one = chain_marked dir r d (omega arith) x h in
      let other = chain_marked dir s d l y g in
      let blocks = ap (mark_at marks) e in
      let same : one.0 ≡ other.0 = cc (one.1, other.1, blocks) in
      let role : Entry dir r ≡ Entry dir s = sym one.2 ∙ ap (λ (m : Mark). m.role) same ∙ other.2 in
      let slots : r ≡ s = cc role in
      omega (arith, slots, b)

  chain-level : (dir s : ℕ) → IsMarkedDirectory image marks dir → s < 72 → AllPairs (λ j k. slot (name_of t j) ≤ slot (name_of t k)) (chain_of image dir s)
  chain-level dir s d l = λ i j z b m.
      let one = told dir d s _ l (Contains-get_or (chain_of image dir s) i z (omega arith)) in
      let other = told dir d s _ l (Contains-get_or (chain_of image dir s) j z m) in
      omega (arith, one, other)

  chains-rise : (dir : ℕ) → IsMarkedDirectory image marks dir → (r s x y : ℕ) → r < s → s < 72 → Contains (chain_of image dir r) x → Contains (chain_of image dir s) y → slot (name_of t x) ≤ slot (name_of t y)
  chains-rise dir d r s x y b l h g =
      let one = told dir d r x (omega arith) h in
      let other = told dir d s y l g in
      omega (arith, one, other, b)

  -- two entries with the same name are the same
  entries-unlike : (dir j k : ℕ) → Contains (entries t dir) j → Contains (entries t dir) k → Same (name_of t j) (name_of t k) → j ≡ k
  entries-unlike dir j k h g same =
      let one = entry_of_parent image marks j dir (lists_entries dir j h) in
      let other = entry_of_parent image marks k dir (lists_entries dir k g) in
      c.unlike j k dir (one.0, one.1, one.2, one.3) (other.0, other.1, other.2, other.3)
      (subst (λ (name : List ℕ). Same name (text_at image k NAME_BYTE)) (name_is j one.0 dir one.1 one.2 one.3)
      (subst (λ (name : List ℕ). Same (name_of t j) name) (name_is k other.0 dir other.1 other.2 other.3) same))

  -- ---- the way to the root

  abbrev Leads : Role → Type 0
  Leads Root = ⊤
  Leads Page = ⊤
  Leads (Entry dir s) = LeadsToRoot t dir
  Leads (Data file) = ⊤
  Leads (Extension file) = ⊤

  parent_leads : {block : ℕ} {role : Role} → Reached image block role → Leads role
  parent_leads start = tt
  parent_leads (named h (root_page l) inside) = tt
  parent_leads (named h (root_slot l n) inside) =
      let m = reached_marked image marks c.reached h in
      at_root (root_role image marks c.reached _ m.0 m.1 m.2)
  parent_leads (named h (directory_slot {dir = dir} {r = r} e l n) inside) =
      let m = reached_marked image marks c.reached h in
      by_parent (parent_of_entry image marks _ m.0 dir r m.1 m.2) (parent_leads h)
  parent_leads (named h (next_entry n) inside) = parent_leads h
  parent_leads _ = tt

  leads : (key : ℕ) (a : Node) → NodeView image marks key a → LeadsToRoot t key
  leads key a (the_root m e is same) = at_root (root_role image marks c.reached key m e is)
  leads key a (an_entry m dir s e is same) =
      by_parent (parent_of_entry image marks key m dir s e is) (subst Leads is (parent_leads (c.reached.reached key m e)))

  -- ---- the fields of a node

  name_valid : (key : ℕ) (a : Node) → NodeView image marks key a → IsName a.name
  name_valid key a (the_root m e is same) =
      let sound : IsSoundRoot image key = subst (IsSound image key) is (c.reached.sound key m e) in
      subst IsName (sym (ap (λ (b : Node). b.name) same)) sound.name.valid
  name_valid key a (an_entry m dir s e is same) = subst IsName (sym (ap (λ (b : Node). b.name) same)) (entry_sound image marks c.reached key dir (m, s, e, is)).name.valid

  comment_is_valid : (key : ℕ) (a : Node) → NodeView image marks key a → IsComment a.comment
  comment_is_valid key a (the_root m e is same) =
      let none : a.comment ≡ [] = ap (λ (b : Node). b.comment) same in
      subst IsComment (sym none) (record { short = omega arith; bytes = λ k d l. absurd (omega (arith, l)) })
  comment_is_valid key a (an_entry m dir s e is same) =
      subst IsComment (sym (ap (λ (b : Node). b.comment) same)) (comment_valid image key im (marked_inside image marks c.reached im key m e).1 (entry_sound image marks c.reached key dir (m, s, e, is)).comment)

  node_inside : (key : ℕ) (a : Node) → NodeView image marks key a → InImage image key
  node_inside key a (the_root m e is same) = marked_inside image marks c.reached im key m e
  node_inside key a (an_entry m dir s e is same) = marked_inside image marks c.reached im key m e

  pub count : block_count image ≡ im.blocks
  count = omega (arith, im.whole)

  pub proper : Proper t
  proper = record {
    size = subst IsSize (sym count) im.size;
    inside = λ key a h. node_inside key a (node_view image marks key a h);
    root_node = (root_node image (root_of image), node_is image marks (root_of image) (mark_of Root 0 0) Root c.reached.root refl, record { no_parent = refl; no_protection = refl; no_comment = refl; keys = keys_of image (root_of image); directory = refl });
    listed = λ dir key. (lists_entries dir key, is_listed dir key);
    once = λ dir. pairs (λ j k. j ≢ k) dir (λ d s l. chain-once dir s d l) (chains-apart dir);
    unlike = entries-unlike;
    rising = λ dir. pairs (λ j k. slot (name_of t j) ≤ slot (name_of t k)) dir (λ d s l. chain-level dir s d l) (chains-rise dir);
    rooted = λ key a h. leads key a (node_view image marks key a h);
    name = λ key a h. name_valid key a (node_view image marks key a h);
    comment = λ key a h. comment_is_valid key a (node_view image marks key a h);
  }
