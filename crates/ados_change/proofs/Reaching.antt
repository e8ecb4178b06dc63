-- In an image that represents a tree, each block with a use other than lost is reached in its role.
use Rattle.ados_change.proofs.Common.{◌≡◌, ◌≢◌, ℕ, zero, suc, ◌+◌, ◌-◌, ◌/◌, ◌%◌, ◌<◌, ◌≤◌, ◌==◌, inl, inr, Bool, true, false, cond, List, [], ◌∷◌, length, slice_index, filter, Contains, Some, refl, sym, ap, ◌∙◌, subst, arith, eq-eqb, false≢true, get_or_default, long, pointer_count, secondary_type, table_entry, chain_head, Contains-cases, Contains-here, Contains-later, Contains-nil, Node, Tree, LeadsToRoot, at_root, by_parent, root, entries, name_of, Directory, HasFile, Stands, in_slot, slot, type_of, directory_node, parent_in, root_or_parent, root_is, root_at, entry_at, count_same, StandsAt, IsFileNode, Role, Reached, InImage, start, root_page, root_slot, directory_slot, next_entry, header_pointer, first_extension, extension_pointer, further_extension, next_of, NEXT_IN_CHAIN, FILE_TYPE}
use Rattle.adf_block.specs.declared.layout.TheConstants.{NEXT_EXTENSION}
use Rattle.ados_name.specs.Name.{hash}
use Rattle.ados_model.proofs.Nodes.{parent_lists}
use Rattle.ados_model.proofs.Standing.{inside_at}
use Rattle.ados_model.specs.Faults.{IsPlace}
use Rattle.ados_model.specs.Faults.Reached.{named}
use Rattle.ados_model.specs.declared.role.Role.TheVariants as roles
use Rattle.std.proofs.Math.Nat.{mod-lt}
use Rattle.ados_change.proofs.Contents.{file_not_root}

-- an element that passes is kept
in_filter : (p : ℕ → Bool) (xs : List ℕ) (x : ℕ) → p x ≡ true → Contains xs x → Contains (filter p xs) x
in_filter p [] x h m = absurd (Contains-nil x m)
in_filter p (y ∷ ys) x h m = go (p y) refl (in_filter p ys x h)
  where
    go : (b : Bool) → p y ≡ b → (Contains ys x → Contains (filter p ys) x) → Contains (cond b (y ∷ filter p ys) (filter p ys)) x
    go true e below = elim (Contains-cases y ys x m) [
      | inl same ↦ subst (λ (z : ℕ). Contains (y ∷ filter p ys) z) same (Contains-here y (filter p ys))
      | inr n ↦ Contains-later y (filter p ys) x (below n)
    ]
    go false e below = elim (Contains-cases y ys x m) [ inl same ↦ absurd (false≢true (sym e ∙ ap p same ∙ h)) | inr n ↦ below n ]

module _ (image : List ℕ) (t : Tree) (s : Stands image t) where
  -- the block that a place names
  through : {block i : ℕ} {role next : Role} → (to : ℕ) → Reached image block role → IsPlace image block role i next → long image block i ≡ to → InImage image to → Reached image to next
  through {block} {i} {next = next} to r p e within = subst (λ (b : ℕ). Reached image b next) e (named r p (subst (InImage image) (sym e) within))

  -- a long that names a block of the image is not 0
  not_zero : {b : ℕ} (to : ℕ) → b ≡ to → InImage image to → b ≢ 0
  not_zero to e within z = omega (arith, e, z, within.0)

  root_reached : Reached image (root t) roles.Root
  root_reached = subst (λ (b : ℕ). Reached image b roles.Root) (root_is image t s) start

  -- ---- entries

  -- the slots of a directory are places of its role
  abbrev LeadsOn : ℕ → Role → Type 0
  LeadsOn dir role = (r : ℕ) → r < 72 → table_entry image dir r ≢ 0 → IsPlace image dir role (6 + r) (roles.Entry dir r)

  -- the entries of a directory that is reached
  entries_reached : (dir : ℕ) (role : Role) → Reached image dir role → LeadsOn dir role → (a : Node) (keys : List ℕ) → t.nodes dir ≡ Some a → a.content ≡ Directory keys
      → (r : ℕ) → r < 72 → (k : ℕ) → k < length (in_slot t dir r) → Reached image (slice_index (in_slot t dir r) k) (roles.Entry dir r)
  entries_reached dir role up leads a keys at content r l zero m =
      let within = inside_at image t s (roles.Entry dir r) 0 (slice_index (in_slot t dir r) 0) (record { within = m; here = refl; holder = l }) in
      let e = chain_head image NEXT_IN_CHAIN (table_entry image dir r) (in_slot t dir r) (s.chains dir a keys r at content l) in
      through (slice_index (in_slot t dir r) 0) up (leads r l (not_zero (slice_index (in_slot t dir r) 0) e within)) e within
  entries_reached dir role up leads a keys at content r l (suc k) m =
      let within = inside_at image t s (roles.Entry dir r) (suc k) (slice_index (in_slot t dir r) (suc k)) (record { within = m; here = refl; holder = l }) in
      let e = next_of image NEXT_IN_CHAIN (table_entry image dir r) (in_slot t dir r) (s.chains dir a keys r at content l) k (omega (arith, m)) in
      through (slice_index (in_slot t dir r) (suc k)) (entries_reached dir role up leads a keys at content r l k (omega (arith, m))) (next_entry (not_zero (slice_index (in_slot t dir r) (suc k)) e within)) e within

  -- a node with a parent is at a position of the chain of its name's slot
  pub entry_stands : (key dir : ℕ) (a : Node) → t.nodes key ≡ Some a → a.parent ≡ Some dir → (k : ℕ) × StandsAt image t s (roles.Entry dir (slot a.name)) k key
  entry_stands key dir a at parent =
      let p : ℕ → Bool = λ (x : ℕ). slot (name_of t x) == slot a.name in
      let named_so : slot (name_of t key) ≡ slot a.name = rw at refl in
      let m = in_filter p (entries t dir) key (eq-eqb (slot (name_of t key)) (slot a.name) named_so) (parent_lists t s.proper dir key a at parent) in
      (m.0, record { within = m.1; here = get_or_default (in_slot t dir (slot a.name)) m.0 0 key m.1 ∙ m.2; holder = mod-lt (hash a.name) (omega arith) })

  -- each directory is reached, in a role with slots
  directory_reached : (dir : ℕ) → LeadsToRoot t dir → (a : Node) (keys : List ℕ) → t.nodes dir ≡ Some a → a.content ≡ Directory keys → (role : Role) × Reached image dir role × LeadsOn dir role
  directory_reached dir (at_root e) a keys at content = (roles.Root, subst (λ (b : ℕ). Reached image b roles.Root) (sym e) root_reached, λ r l n. root_slot l n)
  directory_reached dir (by_parent {dir = above} p q) a keys at content =
      let n = parent_in (t.nodes dir) above p in
      let d = directory_node t s.proper above dir ((s.proper.listed above dir).1 p) in
      let up = directory_reached above q d.0 d.1 d.2 d.3 in
      let place = entry_stands dir above n.0 n.1 n.2 in
      let same : n.0 ≡ a = cc (n.1, at) in
      let typed : secondary_type image dir ≡ 2 = (s.entries dir above n.0 n.1 n.2).secondary ∙ ap (λ (x : Node). type_of x.content) same ∙ ap type_of content in (
        roles.Entry above (slot n.0.name),
        subst (λ (b : ℕ). Reached image b (roles.Entry above (slot n.0.name))) place.1.here
            (entries_reached above up.0 up.1 up.2 d.0 d.1 d.2 d.3 (slot n.0.name) place.1.holder place.0 place.1.within),
        λ r l c. directory_slot typed l c,
      )

  -- ---- files

  module _ (file : ℕ) (f : IsFileNode image t s file) (dir r : ℕ) (header : Reached image file (roles.Entry dir r)) where
    typed : secondary_type image file ≡ FILE_TYPE
    typed = elim (root_or_parent t s.proper file f.node f.at) [
      | inl e ↦ absurd (file_not_root t file f.node f.bytes [] f.at f.content s.proper e)
      | inr up ↦ (s.entries file up.0 f.node f.at up.1).secondary ∙ ap type_of f.content
    ]

    fields : HasFile image t.format file (s.layout.file_data file) (s.layout.extensions file) f.bytes
    fields = s.files file f.node f.bytes f.at f.content

    extensions_reached : (q : ℕ) → q < length (s.layout.extensions file) → Reached image (slice_index (s.layout.extensions file) q) (roles.Extension file)
    extensions_reached zero m =
        let to = slice_index (s.layout.extensions file) 0 in
        let within = inside_at image t s (roles.Extension file) 0 to (record { within = m; here = refl; holder = f }) in
        let e = chain_head image NEXT_EXTENSION (long image file NEXT_EXTENSION) (s.layout.extensions file) fields.chain in
        through to header (first_extension typed (not_zero to e within)) e within
    extensions_reached (suc q) m =
        let to = slice_index (s.layout.extensions file) (suc q) in
        let within = inside_at image t s (roles.Extension file) (suc q) to (record { within = m; here = refl; holder = f }) in
        let e = next_of image NEXT_EXTENSION (long image file NEXT_EXTENSION) (s.layout.extensions file) fields.chain q (omega (arith, m)) in
        through to (extensions_reached q (omega (arith, m))) (further_extension (not_zero to e within)) e within

    -- a data block, by its pointer in pointer block q
    data_from : (q i : ℕ) → q ≤ length (s.layout.extensions file) → i / 72 ≡ q → i < length (s.layout.file_data file) → Reached image (slice_index (s.layout.file_data file) i) (roles.Data file)
    data_from q i l e m = go q l e
      where
        to : ℕ
        to = slice_index (s.layout.file_data file) i

        within : InImage image (slice_index (s.layout.file_data file) i)
        within = inside_at image t s (roles.Data file) i (slice_index (s.layout.file_data file) i) (record { within = m; here = refl; holder = f })

        counted : (q : ℕ) → q ≤ length (s.layout.extensions file) → i / 72 ≡ q → (i % 72 < pointer_count image (slice_index (file ∷ s.layout.extensions file) q)) × (pointer_count image (slice_index (file ∷ s.layout.extensions file) q) ≤ 72)
        counted q l e = (omega (arith, m, e, fields.counts q l), omega (arith, fields.counts q l))

        points : (q : ℕ) → i / 72 ≡ q → long image (slice_index (file ∷ s.layout.extensions file) q) (77 - i % 72) ≡ slice_index (s.layout.file_data file) i
        points q e = ap (λ (x : ℕ). long image (slice_index (file ∷ s.layout.extensions file) x) (77 - i % 72)) (sym e) ∙ fields.pointers i m

        go : (q : ℕ) → q ≤ length (s.layout.extensions file) → i / 72 ≡ q → Reached image (slice_index (s.layout.file_data file) i) (roles.Data file)
        go zero l e = through (slice_index (s.layout.file_data file) i) header (header_pointer typed (counted 0 l e)) (points 0 e) within
        go (suc q) l e = through (slice_index (s.layout.file_data file) i) (extensions_reached q (omega (arith, l))) (extension_pointer (counted (suc q) l e)) (points (suc q) e) within

  -- the header of a file is reached
  header_reached : (file : ℕ) → IsFileNode image t s file → (dir : ℕ) × (r : ℕ) × Reached image file (roles.Entry dir r)
  header_reached file f = elim (root_or_parent t s.proper file f.node f.at) [
    | inl e ↦ absurd (file_not_root t file f.node f.bytes [] f.at f.content s.proper e)
    | inr up ↦
        let place = entry_stands file up.0 f.node f.at up.1 in
        let d = directory_node t s.proper up.0 file (parent_lists t s.proper up.0 file f.node f.at up.1) in
        let above = directory_reached up.0 (s.proper.rooted up.0 d.0 d.2) d.0 d.1 d.2 d.3 in (
          up.0,
          slot f.node.name,
          subst (λ (b : ℕ). Reached image b (roles.Entry up.0 (slot f.node.name))) place.1.here
              (entries_reached up.0 above.0 above.1 above.2 d.0 d.1 d.2 d.3 (slot f.node.name) place.1.holder place.0 place.1.within),
        )
  ]

  -- ---- all roles

  -- each block at a position of a role's list is reached in that role
  pub stands_reached : (role : Role) (k block : ℕ) → StandsAt image t s role k block → Reached image block role
  stands_reached roles.Root k block h = subst (λ (b : ℕ). Reached image b roles.Root) (sym (root_at image t s k block h)) root_reached
  stands_reached roles.Page k block h =
      through block root_reached (root_page (omega (arith, h.within, s.fits.pages, count_same image t s))) (s.root_fields.pages k h.within ∙ h.here) (inside_at image t s roles.Page k block h)
  stands_reached (roles.Entry dir r) k block h =
      let d = directory_node t s.proper dir block (entry_at image t s dir r k block h).listed in
      let up = directory_reached dir (s.proper.rooted dir d.0 d.2) d.0 d.1 d.2 d.3 in
      subst (λ (b : ℕ). Reached image b (roles.Entry dir r)) h.here (entries_reached dir up.0 up.1 up.2 d.0 d.1 d.2 d.3 r h.holder k h.within)
  stands_reached (roles.Data file) k block h =
      let up = header_reached file h.holder in
      subst (λ (b : ℕ). Reached image b (roles.Data file)) h.here
      (data_from file h.holder up.0 up.1 up.2 (k / 72) k (omega (arith, h.within, s.fits.extensions file)) refl h.within)
  stands_reached (roles.Extension file) k block h =
      let up = header_reached file h.holder in
      subst (λ (b : ℕ). Reached image b (roles.Extension file)) h.here (extensions_reached file h.holder up.0 up.1 up.2 k h.within)
