-- In an image that represents a tree, each reached block has one position in the list of its role.
use Rattle.ados_model.proofs.Common.{◌≡◌, ◌≢◌, ℕ, zero, suc, ◌+◌, ◌-◌, ◌*◌, ◌/◌, ◌%◌, ◌<◌, ◌≤◌, ◌⊎◌, inl, inr, true, ◌==◌, List, [], ◌∷◌, length, slice_index, slice_get, AllPairs, Contains, Some, None, refl, sym, ap, ap₂, ◌∙◌, subst, arith, eqb-true, cases_order, slice_get-get_or, All-filter, All-contains_itself, filter_passes, AllPairs-filter, block_count, root_key, page_count, long, Chained, table_entry, pointer, pointer_count, secondary_type, slot, Content, Node, Tree, root, entries, name_of, Directory, File, Duty, HasDuty, Stands, type_of, in_slot, FILE_TYPE, NEXT_IN_CHAIN, NEXT_EXTENSION, Role, IsPlace, Reached, root_of, InImage}
use Rattle.std.specs.Bool.{⊤}
use Rattle.ados_model.specs.declared.role.Role.TheVariants as roles
use Rattle.ados_model.specs.Faults.IsPlace.{root_page, root_slot, directory_slot, next_entry, header_pointer, first_extension, extension_pointer, further_extension}
use Rattle.ados_model.specs.Faults.Reached.{start, named}
use Rattle.ados_model.proofs.Nodes.{entry_node, directory_node}

-- each block is followed by the next of its list, or the list ends
pub Chained-more : (image : List ℕ) (link first : ℕ) (xs : List ℕ) (k : ℕ) → Chained image link first xs → k < length xs → ((suc k < length xs) × (long image (slice_index xs k) link ≡ slice_index xs (suc k))) ⊎ ((suc k ≡ length xs) × (long image (slice_index xs k) link ≡ 0))
Chained-more image link first [] k c l = absurd (omega arith)
Chained-more image link first (x ∷ []) zero c l = inr (omega arith, c.1)
Chained-more image link first (x ∷ y ∷ xs) zero c l = inl (omega arith, c.1.0)
Chained-more image link first (x ∷ xs) (suc k) c l =
    elim (Chained-more image link (long image x link) xs k c.1 (omega arith)) [ inl h ↦ inl (omega (arith, h.0), h.1) | inr h ↦ inr (omega (arith, h.0), h.1) ]

-- a linked list with a first link other than 0 starts with its first block
pub Chained-first : (image : List ℕ) (link first : ℕ) (xs : List ℕ) → Chained image link first xs → first ≢ 0 → (0 < length xs) × (slice_index xs 0 ≡ first)
Chained-first image link first [] c n = absurd (n c)
Chained-first image link first (x ∷ xs) c n = (omega arith, sym c.0)

pub slice_get-index : (xs : List ℕ) (i : ℕ) → i < length xs → slice_get xs i ≡ Some (slice_index xs i)
slice_get-index xs i l = slice_get-get_or xs i 0 l

-- an element of a list without duplicates has one position
pub one_place : (xs : List ℕ) → AllPairs (λ a b. a ≢ b) xs → (i j : ℕ) → i < length xs → j < length xs → slice_index xs i ≡ slice_index xs j → i ≡ j
one_place xs h i j l m e = go (cases_order i j)
  where
    go : (i ≡ j) ⊎ ((i < j) ⊎ (j < i)) → i ≡ j
    go (inl same) = same
    go (inr (inl before)) = absurd (h i j 0 before m e)
    go (inr (inr behind)) = absurd (h j i 0 behind l (sym e))

module _ (image : List ℕ) (t : Tree) (s : Stands image t) where
  pub count_same : block_count image ≡ t.blocks
  count_same = omega (arith, s.whole)

  pub root_is : root_of image ≡ root t
  root_is = ap root_key count_same

  -- the blocks of a role, in order
  abbrev pub list_of : Role → List ℕ
  list_of roles.Root = root t ∷ []
  list_of roles.Page = s.layout.pages
  list_of (roles.Entry dir r) = in_slot t dir r
  list_of (roles.Data file) = s.layout.file_data file
  list_of (roles.Extension file) = s.layout.extensions file

  pub record IsFileNode (file : ℕ) : Type 0 where
    pub node : Node
    pub bytes : List ℕ
    pub at : t.nodes file ≡ Some node
    pub content : node.content ≡ File bytes

  -- the premise for the blocks of a role
  abbrev pub Holder : Role → Type 0
  Holder roles.Root = ⊤
  Holder roles.Page = ⊤
  Holder (roles.Entry dir r) = r < 72
  Holder (roles.Data file) = IsFileNode file
  Holder (roles.Extension file) = IsFileNode file

  -- the block is at position k of the list of its role
  pub record StandsAt (role : Role) (k block : ℕ) : Type 0 where
    pub within : k < length (list_of role)
    pub here : slice_index (list_of role) k ≡ block
    pub holder : Holder role

  -- the block with the long that names position k of a role's list, and the index of that long
  abbrev pub holder_of : Role → ℕ → ℕ
  holder_of roles.Root k = 0
  holder_of roles.Page k = root t
  holder_of (roles.Entry dir r) zero = dir
  holder_of (roles.Entry dir r) (suc k) = slice_index (in_slot t dir r) k
  holder_of (roles.Data file) k = slice_index (file ∷ s.layout.extensions file) (k / 72)
  holder_of (roles.Extension file) k = slice_index (file ∷ s.layout.extensions file) k

  abbrev pub long_of : Role → ℕ → ℕ
  long_of roles.Root k = 0
  long_of roles.Page k = 79 + k
  long_of (roles.Entry dir r) zero = 6 + r
  long_of (roles.Entry dir r) (suc k) = NEXT_IN_CHAIN
  long_of (roles.Data file) k = 77 - k % 72
  long_of (roles.Extension file) k = NEXT_EXTENSION

  -- a place leads to a position in the list of the next role, and only that long names it
  pub record LeadsTo (block i : ℕ) (next : Role) : Type 0 where
    pub place : ℕ
    pub not_root : next ≢ roles.Root
    pub stands : StandsAt next place (long image block i)
    pub by_block : block ≡ holder_of next place
    pub by_long : i ≡ long_of next place

  pub root_at : (k block : ℕ) → StandsAt roles.Root k block → block ≡ root t
  root_at zero block h = sym h.here
  root_at (suc k) block h = absurd (omega (arith, h.within))

  directory_type : (c : Content) → type_of c ≡ 2 → (keys : List ℕ) × (c ≡ Directory keys)
  directory_type (Directory keys) e = (keys, refl)
  directory_type (File bytes) e = absurd (omega (arith, e))

  file_type_is : (c : Content) → type_of c ≡ FILE_TYPE → (bytes : List ℕ) × (c ≡ File bytes)
  file_type_is (Directory keys) e = absurd (omega (arith, e))
  file_type_is (File bytes) e = (bytes, refl)

  -- facts about an entry at its position
  pub record IsEntryNode (dir r block : ℕ) : Type 0 where
    pub node : Node
    pub at : t.nodes block ≡ Some node
    pub parent : node.parent ≡ Some dir
    pub slotted : slot node.name ≡ r
    pub listed : Contains (entries t dir) block

  pub entry_at : (dir r k block : ℕ) → StandsAt (roles.Entry dir r) k block → IsEntryNode dir r block
  entry_at dir r k block h =
      let p = λ (key : ℕ). slot (name_of t key) == r in
      let contains : Contains (entries t dir) (slice_index (in_slot t dir r) k) = All-filter p (Contains (entries t dir)) (entries t dir) (All-contains_itself (entries t dir)) k 0 h.within in
      let passes : (slot (name_of t (slice_index (in_slot t dir r) k)) == r) ≡ true = filter_passes p (entries t dir) k 0 h.within in
      let slotted : slot (name_of t block) ≡ r = subst (λ (b : ℕ). slot (name_of t b) ≡ r) h.here (eqb-true _ r passes) in
      let listed = subst (Contains (entries t dir)) h.here contains in
      let found = entry_node t s.proper dir block listed in
      record { node = found.0; at = found.1; parent = found.2; slotted = rw found.1 at slotted; listed = listed }

  abbrev pub duty_of : Role → ℕ → Duty
  duty_of roles.Root k = Duty.Key
  duty_of roles.Page k = Duty.Page k
  duty_of (roles.Entry dir r) k = Duty.Key
  duty_of (roles.Data file) k = Duty.Data file k
  duty_of (roles.Extension file) k = Duty.Extension file k

  pub serves_at : (role : Role) (k block : ℕ) → StandsAt role k block → HasDuty t s.layout block (duty_of role k)
  serves_at roles.Root k block h =
      let at : t.nodes block ≡ Some s.proper.root_node.0 = ap t.nodes (root_at k block h) ∙ s.proper.root_node.1 in
      rw at refl
  serves_at roles.Page k block h = slice_get-index s.layout.pages k h.within ∙ ap Some h.here
  serves_at (roles.Entry dir r) k block h = let e = (entry_at dir r k block h).at in rw e refl
  serves_at (roles.Data file) k block h = slice_get-index (s.layout.file_data file) k h.within ∙ ap Some h.here
  serves_at (roles.Extension file) k block h = slice_get-index (s.layout.extensions file) k h.within ∙ ap Some h.here

  pub inside_at : (role : Role) (k block : ℕ) → StandsAt role k block → InImage image block
  inside_at role k block h =
      let inside = s.fits.inside block (duty_of role k) (serves_at role k block h) in
      (inside.0, omega (arith, inside.1, count_same))

  -- a root is no entry
  root_no_entry : (k j dir r block : ℕ) → StandsAt roles.Root k block → StandsAt (roles.Entry dir r) j block → ⊥
  root_no_entry k j dir r block h m =
      let n = entry_at dir r j block m in
      let root_at_block : t.nodes block ≡ Some s.proper.root_node.0 = ap t.nodes (root_at k block h) ∙ s.proper.root_node.1 in
      let same : n.node ≡ s.proper.root_node.0 = cc (n.at, root_at_block) in
      let none : n.node.parent ≡ None = ap (λ (a : Node). a.parent) same ∙ s.proper.root_node.2.no_parent in
      cc (none, n.parent)

  -- a block is at one position of one role's list
  pub same_place : (role other : Role) (k j block : ℕ) → StandsAt role k block → StandsAt other j block → (role ≡ other) × (k ≡ j)
  same_place role other k j block h m = go role other h m (s.fits.one_duty block (duty_of role k) (duty_of other j) (serves_at role k block h) (serves_at other j block m))
    where
      go : (role other : Role) → StandsAt role k block → StandsAt other j block → duty_of role k ≡ duty_of other j → (role ≡ other) × (k ≡ j)
      go roles.Root roles.Root h m e = (refl, omega (arith, h.within, m.within))
      go roles.Page roles.Page h m e = (refl, cc e)
      go (roles.Data file) (roles.Data file') h m e = let same : file ≡ file' = cc e in (ap roles.Data same, cc e)
      go (roles.Extension file) (roles.Extension file') h m e = let same : file ≡ file' = cc e in (ap roles.Extension same, cc e)
      go (roles.Entry dir r) (roles.Entry dir' r') h m e =
          let x = entry_at dir r k block h in
          let y = entry_at dir' r' j block m in
          let same : x.node ≡ y.node = cc (x.at, y.at) in
          let dirs : dir ≡ dir' = cc (x.parent, y.parent, same) in
          let slots : r ≡ r' = sym x.slotted ∙ ap (λ (a : Node). slot a.name) same ∙ y.slotted in
          let lists : in_slot t dir' r' ≡ in_slot t dir r = ap₂ (λ (d q : ℕ). in_slot t d q) (sym dirs) (sym slots) in
          let apart = AllPairs-filter (λ a b. a ≢ b) (λ key. slot (name_of t key) == r) (entries t dir) (s.proper.once dir) in
          let within : j < length (in_slot t dir r) = subst (λ (xs : List ℕ). j < length xs) lists m.within in
          let here : slice_index (in_slot t dir r) j ≡ block = subst (λ (xs : List ℕ). slice_index xs j ≡ block) lists m.here in
          (ap₂ roles.Entry dirs slots, one_place (in_slot t dir r) apart k j h.within within (h.here ∙ sym here))
      go roles.Root (roles.Entry dir r) h m e = absurd (root_no_entry k j dir r block h m)
      go (roles.Entry dir r) roles.Root h m e = absurd (root_no_entry j k dir r block m h)
      go _ _ h m e = absurd (cc e)

  -- a slot of a directory leads to the first entry of its hash chain
  slot_leads : (dir r : ℕ) (a : Node) (keys : List ℕ) → t.nodes dir ≡ Some a → a.content ≡ Directory keys → r < 72 → table_entry image dir r ≢ 0 → LeadsTo dir (6 + r) (roles.Entry dir r)
  slot_leads dir r a keys e c l n =
      let first = Chained-first image NEXT_IN_CHAIN (table_entry image dir r) (in_slot t dir r) (s.chains dir a keys r e c l) n in
      record { place = 0; not_root = λ z. cc z; stands = record { within = first.0; here = first.1; holder = l }; by_block = refl; by_long = refl }

  -- a pointer of a file leads to a data block
  pointer_leads : (file : ℕ) (f : IsFileNode file) (q p : ℕ) → q ≤ length (s.layout.extensions file) → p < pointer_count image (slice_index (file ∷ s.layout.extensions file) q) → LeadsTo (slice_index (file ∷ s.layout.extensions file) q) (77 - p) (roles.Data file)
  pointer_leads file f q p l m =
      let headers = file ∷ s.layout.extensions file in
      let h = s.files file f.node f.bytes f.at f.content in
      let counted = h.counts q l in
      let within : 72 * q + p < length (s.layout.file_data file) = omega (arith, m, counted) in
      let small : p < 72 = omega (arith, m, counted) in
      let quotient : (72 * q + p) / 72 ≡ q = omega (arith, small) in
      let remainder : (72 * q + p) % 72 ≡ p = omega (arith, small) in
      record {
        place = 72 * q + p;
        not_root = λ z. cc z;
        stands = record {
          within = within;
          here = sym (h.pointers (72 * q + p) within) ∙ ap₂ (λ (i j : ℕ). pointer image (slice_index (file ∷ s.layout.extensions file) i) j) quotient remainder;
          holder = f;
        };
        by_block = ap (λ (i : ℕ). slice_index (file ∷ s.layout.extensions file) i) (sym quotient);
        by_long = ap (λ (j : ℕ). 77 - j) (sym remainder);
      }

  entry_fields : (dir r k block : ℕ) (h : StandsAt (roles.Entry dir r) k block) → secondary_type image block ≡ type_of (entry_at dir r k block h).node.content
  entry_fields dir r k block h =
      let n = entry_at dir r k block h in
      (s.entries block dir n.node n.at n.parent).secondary

  pub file_at : (dir r k block : ℕ) → StandsAt (roles.Entry dir r) k block → secondary_type image block ≡ FILE_TYPE → IsFileNode block
  file_at dir r k block h e =
      let n = entry_at dir r k block h in
      let c = file_type_is n.node.content (sym (entry_fields dir r k block h) ∙ e) in
      record { node = n.node; bytes = c.0; at = n.at; content = c.1 }

  -- a place of a block at a position leads to a block at a position
  pub leads : {block i : ℕ} {role next : Role} (k : ℕ) → StandsAt role k block → IsPlace image block role i next → LeadsTo block i next
  leads {block = block} k h (root_page {i = i} l) =
      let same = root_at k block h in
      let within : i < length s.layout.pages = omega (arith, l, s.fits.pages, ap page_count count_same) in
      record {
        place = i;
        not_root = λ z. cc z;
        stands = record { within = within; here = sym (s.root_fields.pages i within) ∙ ap (λ (b : ℕ). long image b (79 + i)) (sym same); holder = tt };
        by_block = same;
        by_long = refl;
      }
  leads {block = block} k h (root_slot {s = r} l n) =
      let m = s.proper.root_node in
      slot_leads block r m.0 m.2.keys (ap t.nodes (root_at k block h) ∙ m.1) m.2.directory l n
  leads {block = block} k h (directory_slot {dir = dir} {r = q} {s = r} e l n) =
      let m = entry_at dir q k block h in
      let c = directory_type m.node.content (sym (entry_fields dir q k block h) ∙ e) in
      slot_leads block r m.node c.0 m.at c.1 l n
  leads {block = block} k h (next_entry {dir = dir} {s = r} n) =
      let m = directory_node t s.proper dir block (entry_at dir r k block h).listed in
      let chain = s.chains dir m.0 m.1 r m.2 m.3 h.holder in
      let here = ap (λ (b : ℕ). long image b NEXT_IN_CHAIN) h.here in
      elim (Chained-more image NEXT_IN_CHAIN (table_entry image dir r) (in_slot t dir r) k chain h.within) [
        | inl g ↦ record { place = suc k; not_root = λ z. cc z; stands = record { within = g.0; here = sym g.1 ∙ here; holder = h.holder }; by_block = sym h.here; by_long = refl }
        | inr g ↦ absurd (n (sym here ∙ g.1))
      ]
  leads {block = block} k h (header_pointer {dir = dir} {s = r} {i = i} e p) =
      pointer_leads block (file_at dir r k block h e) 0 i (omega arith) p.0
  leads {block = block} k h (first_extension {dir = dir} {s = r} e n) =
      let f = file_at dir r k block h e in
      let first = Chained-first image NEXT_EXTENSION (long image block NEXT_EXTENSION) (s.layout.extensions block) (s.files block f.node f.bytes f.at f.content).chain n in
      record { place = 0; not_root = λ z. cc z; stands = record { within = first.0; here = first.1; holder = f }; by_block = refl; by_long = refl }
  leads {block = block} k h (extension_pointer {file = file} {i = i} p) =
      let count : i < pointer_count image (slice_index (file ∷ s.layout.extensions file) (suc k)) = subst (λ (b : ℕ). i < pointer_count image b) (sym h.here) p.0 in
      subst (λ (b : ℕ). LeadsTo b (77 - i) (roles.Data file)) h.here (pointer_leads file h.holder (suc k) i (omega (arith, h.within)) count)
  leads {block = block} k h (further_extension {file = file} n) =
      let f = h.holder in
      let here = ap (λ (b : ℕ). long image b NEXT_EXTENSION) h.here in
      elim (Chained-more image NEXT_EXTENSION (long image file NEXT_EXTENSION) (s.layout.extensions file) k (s.files file f.node f.bytes f.at f.content).chain h.within) [
        | inl g ↦ record { place = suc k; not_root = λ z. cc z; stands = record { within = g.0; here = sym g.1 ∙ here; holder = f }; by_block = sym h.here; by_long = refl }
        | inr g ↦ absurd (n (sym here ∙ g.1))
      ]

  -- each reached block is at a position of its role's list
  pub reached_stands : {block : ℕ} {role : Role} → Reached image block role → (k : ℕ) × StandsAt role k block
  reached_stands start = (0, record { within = omega arith; here = sym root_is; holder = tt })
  reached_stands (named {block = block} {i = i} {role = role} {next = next} h p inside) =
      let n = reached_stands h in
      let to = leads n.0 n.1 p in
      (to.place, to.stands)
