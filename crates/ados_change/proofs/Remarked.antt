-- A block allocated for a new node, or freed by one: the rest of the image is unchanged.
use Rattle.ados_change.proofs.Common.{◌≡◌, ◌≢◌, ℕ, ◌+◌, ◌/◌, ◌<◌, ◌⊎◌, inl, inr, Bool, true, false, ◌==◌, List, length, slice_index, Contains, not, Option, Some, is_some, option_map, refl, sym, ap, ◌∙◌, subst, arith, BitChanged, MapPlace, page_block, page_of, pages_of, bit_of_inside, same_sum, OnlyBlock, other_block_sum, get_or_default, cases_eq, IsInside, has_free_bit, block_sum, Chained, HasFreeBit, table_entry, NEXT_IN_CHAIN, slot, data_count, Node, Tree, root, entries, entries_in, size_of, name_of, size_in, HasFile, Layout, Fits, Duty, HasDuty, Named, HasNode, HasEntry, in_slot, Directory, File, with_node, SameBut, slice_get-index, parent_in, Chained-kept}
use Rattle.ados_change.proofs.Unchanged.{AtLongs, Stays, long_as, bytes_as, node_as, entry_as, root_as, file_stays}
use Rattle.ados_change.proofs.Entering.{Contains-part}
use Rattle.ados_change.proofs.Changed.{nodes_here, nodes_other}
use Rattle.ados_change.proofs.Loose.{Loose, Spells, same_duty, slots_beside}
use Rattle.ados_change.proofs.Lawful.{count, page_is, page_within}

-- a bitmap block
abbrev pub IsPage : Layout → ℕ → Type 0
IsPage l b = (p : ℕ) × (p < length l.pages) × (slice_index l.pages p ≡ b)

-- the bitmap blocks and one other block
abbrev pub InPageOr : Layout → ℕ → ℕ → ℕ → Type 0
InPageOr l key b j = IsPage l b ⊎ (b ≡ key)

-- the block of a key has this node now, or is free
pub record Remarks (old : List ℕ) (t : Tree) (l : Layout) (key : ℕ) (o : Option Node) (new : List ℕ) : Type 0 where
  pub change : SameBut (AtLongs (InPageOr l key)) old new
  pub bit : has_free_bit new key ≡ not (is_some o)
  pub others : (b : ℕ) → IsInside t.blocks b → b ≢ key → has_free_bit new b ≡ has_free_bit old b
  pub sums : (page : ℕ) → Contains l.pages page → block_sum new page ≡ 0

-- one bit was changed: the key's block may have another node
module _ (old new : List ℕ) (t : Tree) (lay : Layout) (key : ℕ) (s : Spells old t lay) (loose : Loose t key) (inside : IsInside t.blocks key) (o : Option Node) (marked : BitChanged old key (not (is_some o)) new) where
  own_page : page_of key < pages_of old
  own_page = omega (arith, inside.0, inside.1, count old t lay key s loose)

  pub marked_remarks : Remarks old t lay key o new
  marked_remarks = record {
    change = record {
      same_length = marked.rest.same_length;
      same_byte = λ b i m n. marked.rest.same_byte b i m (λ w. n (inl (page_of key, page_within old t lay key s loose (page_of key) own_page, sym (page_is old t lay key s loose (page_of key) (page_within old t lay key s loose (page_of key) own_page)) ∙ sym w.0)));
    };
    bit = marked.bit;
    others = λ b i n. marked.others b (bit_of_inside old b (i.0, omega (arith, i.1, s.whole))) n;
    sums = λ page m. elim (cases_eq (page_block old (page_of key)) page) [
      | inl e ↦ ap (block_sum new) (sym e) ∙ marked.sum
      | inr n ↦ same_sum (MapPlace old key) old new marked.rest page (λ k o w. n (sym w.0)) ∙ s.pages page m
    ];
  }

-- the key's block was then filled, without effect on the bitmap
pub filled_remarks : (old mid new : List ℕ) (t : Tree) (l : Layout) (key : ℕ) (o : Option Node) → ((p : ℕ) → p < length l.pages → slice_index l.pages p ≢ key) → ((b : ℕ) → IsInside t.blocks b → has_free_bit new b ≡ has_free_bit mid b) → IsInside t.blocks key
    → Remarks old t l key o mid → OnlyBlock key mid new → Remarks old t l key o new
filled_remarks old mid new t l key o no_page marks inside r filled = record {
  change = record { same_length = filled.same_length ∙ r.change.same_length; same_byte = λ b i m n. filled.same_byte b i m (λ e. n (inr e)) ∙ r.change.same_byte b i m n };
  bit = marks key inside ∙ r.bit;
  others = λ b i n. marks b i ∙ r.others b i n;
  sums = λ page m. other_block_sum key mid new filled page (λ e. no_page m.0 m.1 (get_or_default l.pages m.0 0 page m.1 ∙ m.2 ∙ e)) ∙ r.sums page m;
}

-- a node whose only block is that of its key
pub record IsAlone (t : Tree) (l : Layout) (key : ℕ) (o : Option Node) : Type 0 where
  pub inside : IsInside t.blocks key
  pub only : (duty : Duty) → HasDuty t l key duty → duty ≡ Duty.Key
  pub same_list : entries_in (option_map (λ node. node.content) o) ≡ entries t key
  pub size_after : size_in (option_map (λ node. node.content) o) ≡ 0
  pub size_before : size_of t key ≡ 0

module _ (old new : List ℕ) (t : Tree) (l : Layout) (key : ℕ) (o : Option Node) (s : Spells old t l) (loose : Loose t key) (alone : IsAlone t l key o) (r : Remarks old t l key o new) where
  abbrev w : Tree
  w = with_node key o t

  -- a block that is neither a bitmap block nor the key
  abbrev pub IsBeside : ℕ → Type 0
  IsBeside b = (b ≢ key) × ((p : ℕ) → p < length l.pages → slice_index l.pages p ≢ b)

  untouched : (b j : ℕ) → IsBeside b → ¬ InPageOr l key b j
  untouched b j n (inl m) = n.1 m.0 m.1 m.2
  untouched b j n (inr e) = n.0 e

  stays : (b : ℕ) → IsBeside b → Stays old new b
  stays b n = record { size = r.change.same_length; bytes = λ k l m. r.change.same_byte b k l (untouched b (k / 4) n) }

  -- a block used otherwise than as a bitmap block, and not the key
  by_duty : (b : ℕ) (duty : Duty) → HasDuty t l b duty → ((p : ℕ) → duty ≢ Duty.Page p) → b ≢ key → IsBeside b
  by_duty b duty m n o = (o, λ p h e. n p (s.fits.one_duty b duty (Duty.Page p) m (slice_get-index l.pages p h ∙ ap Some e)))

  node_beside : (k : ℕ) (a : Node) → t.nodes k ≡ Some a → k ≢ key → IsBeside k
  node_beside k a e n = by_duty k Duty.Key (rw e refl) (λ p z. cc z) n

  boot_beside : IsBeside 0
  boot_beside = (
    λ e. omega (arith, e, alone.inside.0),
    λ p h e. let inside = s.fits.inside 0 (Duty.Page p) (slice_get-index l.pages p h ∙ ap Some e) in omega (arith, inside.0),
  )

  -- a block used neither as a bitmap block nor as a key is unchanged
  list_stays : (b : ℕ) (duty : Duty) → HasDuty t l b duty → ((p : ℕ) → duty ≢ Duty.Page p) → duty ≢ Duty.Key → Stays old new b
  list_stays b duty m n o = stays b (by_duty b duty m n (λ e. o (alone.only duty (subst (λ (c : ℕ). HasDuty t l c duty) e m))))

  file_kept : (file : ℕ) (a : Node) (bytes : List ℕ) → t.nodes file ≡ Some a → a.content ≡ File bytes → IsBeside file → HasFile new t.format file (l.file_data file) (l.extensions file) bytes
  file_kept file a bytes e c n =
      let held : size_of t file ≡ length bytes = rw e (rw c refl) in
      file_stays old new t.format file (l.file_data file) (l.extensions file) bytes (λ j o. long_as old new file (stays file n) j (omega (arith, o)))
      (λ q m. list_stays _ (Duty.Extension file q) (slice_get-index (l.extensions file) q m) (λ p z. cc z) (λ z. cc z)) (λ i m. list_stays _ (Duty.Data file i) (slice_get-index (l.file_data file) i m) (λ p z. cc z) (λ z. cc z))
      (omega (arith, s.fits.extensions file)) (s.fits.file_data file ∙ ap (data_count t.format) held) (s.files file a bytes e c)

  node_at : (k : ℕ) (a : Node) → w.nodes k ≡ Some a → ((k ≡ key) × (o ≡ Some a)) ⊎ ((k ≢ key) × (t.nodes k ≡ Some a))
  node_at k a e = elim (cases_eq k key) [
    | inl d ↦ inl (d, sym (nodes_here key o t) ∙ ap w.nodes (sym d) ∙ e)
    | inr n ↦ inr (n, sym (nodes_other key o t k n) ∙ e)
  ]

  -- ---- the uses

  serves_old : (b : ℕ) (duty : Duty) → b ≢ key → HasDuty w l b duty → HasDuty t l b duty
  serves_old b duty n m = same_duty w t l b (ap is_some (sym (nodes_other key o t b n))) refl duty m

  serves_here : (duty : Duty) → HasDuty w l key duty → (duty ≡ Duty.Key) × (is_some o ≡ true)
  serves_here Duty.Key m = (refl, ap is_some (sym (nodes_here key o t)) ∙ m)
  serves_here duty m = absurd (let e = alone.only duty m in cc e)

  size_stays : (file : ℕ) → size_of w file ≡ size_of t file
  size_stays file = elim (cases_eq file key) [
    | inl e ↦ ap (λ (n : Option Node). size_in (option_map (λ node. node.content) n)) (ap w.nodes e ∙ nodes_here key o t) ∙ alone.size_after ∙ sym alone.size_before ∙ ap (size_of t) (sym e)
    | inr n ↦ ap (λ (n : Option Node). size_in (option_map (λ node. node.content) n)) (nodes_other key o t file n)
  ]

  fits_after : Fits w l
  fits_after = record {
    pages = s.fits.pages;
    file_data = λ file. s.fits.file_data file ∙ ap (data_count t.format) (sym (size_stays file));
    extensions = s.fits.extensions;
    inside = λ b duty m. elim (cases_eq b key) [
      | inl e ↦ subst (IsInside t.blocks) (sym e) alone.inside
      | inr n ↦ s.fits.inside b duty (serves_old b duty n m)
    ];
    lost = s.fits.lost;
    one_duty = λ b duty other m n. elim (cases_eq b key) [
      | inl e ↦ (serves_here duty (subst (λ (c : ℕ). HasDuty w l c duty) e m)).0 ∙ sym (serves_here other (subst (λ (c : ℕ). HasDuty w l c other) e n)).0
      | inr d ↦ s.fits.one_duty b duty other (serves_old b duty d m) (serves_old b other d n)
    ];
  }

  free_after : (b : ℕ) → IsInside t.blocks b → HasFreeBit new b → ¬ Named w l b
  free_after b i m n = elim (cases_eq b key) [
    | inl e ↦
        let here = serves_here n.0 (subst (λ (c : ℕ). HasDuty w l c n.0) e n.1) in
        let bit : has_free_bit new key ≡ true = ap (has_free_bit new) (sym e) ∙ m in
        let clear : has_free_bit new key ≡ false = r.bit ∙ ap not here.1 in
        cc (bit, clear)
    | inr d ↦ s.marked_free b i (sym (r.others b i d) ∙ m) (n.0, serves_old b n.0 d n.1)
  ]

  used_after : (b : ℕ) → IsInside t.blocks b → ¬ HasFreeBit new b → Named w l b
  used_after b i m = elim (cases_eq b key) [
    | inl e ↦
        let set : is_some o ≡ true = is_set (is_some o) refl (λ z. m (ap (has_free_bit new) e ∙ z)) in
        (Duty.Key, ap is_some (ap w.nodes e ∙ nodes_here key o t) ∙ set)
    | inr d ↦ let n = s.marked_used b i (λ z. m (r.others b i d ∙ z)) in (n.0, same_duty t w l b (ap is_some (nodes_other key o t b d)) refl n.0 n.1)
  ]
    where
      is_set : (c : Bool) → is_some o ≡ c → ¬ HasFreeBit new key → c ≡ true
      is_set true e n = refl
      is_set false e n = absurd (n (r.bit ∙ ap not e))

  module _ (node_here : (a : Node) → o ≡ Some a → HasNode new key a) (entry_here : (a : Node) (dir : ℕ) → o ≡ Some a → a.parent ≡ Some dir → HasEntry new key a dir)
      (slots_here : (a : Node) (keys : List ℕ) (q : ℕ) → o ≡ Some a → a.content ≡ Directory keys → q < 72 → Chained new NEXT_IN_CHAIN (table_entry new key q) (in_slot t key q))
      (file_here : (a : Node) (bytes : List ℕ) → o ≡ Some a → a.content ≡ File bytes → HasFile new t.format key (l.file_data key) (l.extensions key) bytes) where
    node_after : (k : ℕ) (a : Node) → w.nodes k ≡ Some a → HasNode new k a
    node_after k a e = elim (node_at k a e) [
      | inl h ↦ subst (λ (b : ℕ). HasNode new b a) (sym h.0) (node_here a h.1)
      | inr h ↦ node_as old new k (stays k (node_beside k a h.1 h.0)) a (loose.name k a h.1) (s.nodes k a h.1)
    ]

    entry_after : (k dir : ℕ) (a : Node) → w.nodes k ≡ Some a → a.parent ≡ Some dir → HasEntry new k a dir
    entry_after k dir a e p = elim (node_at k a e) [
      | inl h ↦ subst (λ (b : ℕ). HasEntry new b a dir) (sym h.0) (entry_here a dir h.1 p)
      | inr h ↦ entry_as old new k (stays k (node_beside k a h.1 h.0)) a dir (loose.comment k a h.1) (s.entries k dir a h.1 p)
    ]

    -- an entry of a list is such a node
    listed_beside : (dir k : ℕ) → Contains (entries t dir) k → IsBeside k
    listed_beside dir k m =
        let p = (loose.listed dir k).0 m in
        let n = parent_in (t.nodes k) dir p.1 in
        node_beside k n.0 n.1 p.0

    chain_after : (dir : ℕ) (a : Node) (keys : List ℕ) (q : ℕ) → w.nodes dir ≡ Some a → a.content ≡ Directory keys → q < 72 → Chained new NEXT_IN_CHAIN (table_entry new dir q) (in_slot w dir q)
    chain_after dir a keys q e c m = subst (Chained new NEXT_IN_CHAIN (table_entry new dir q)) (sym (slots_beside t key loose o alone.same_list dir q)) (elim (node_at dir a e) [
      | inl h ↦ subst (λ (d : ℕ). Chained new NEXT_IN_CHAIN (table_entry new d q) (in_slot t d q)) (sym h.0) (slots_here a keys q h.1 c m)
      | inr h ↦
          subst (λ (first : ℕ). Chained new NEXT_IN_CHAIN first (in_slot t dir q)) (sym (long_as old new dir (stays dir (node_beside dir a h.1 h.0)) (6 + q) (omega (arith, m))))
          (Chained-kept old new NEXT_IN_CHAIN (table_entry old dir q) (in_slot t dir q) (λ b n. long_as old new b (stays b (listed_beside dir b (Contains-part (λ k. slot (name_of t k) == q) (entries t dir) b n))) 124 (omega arith)) (s.chains dir a keys q h.1 c m))
    ])

    pub remarked : Spells new w l
    remarked = record {
      fits = fits_after;
      whole = r.change.same_length ∙ s.whole;
      boot = bytes_as old new 0 (stays 0 boot_beside) 0 4 (omega arith) ∙ s.boot;
      root_fields = root_as old new t l w.nodes l.file_data l.extensions (omega (arith, s.fits.pages, loose.size.1)) (stays (root t) (node_beside (root t) loose.root_node.0 loose.root_node.1 (λ e. loose.not_root (sym e)))) s.root_fields;
      nodes = node_after;
      entries = entry_after;
      pages = r.sums;
      lost = λ b bytes e. bytes_as old new b (list_stays b Duty.Lost (rw e refl) (λ p z. cc z) (λ z. cc z)) 0 512 (omega arith) ∙ s.lost b bytes e;
      chains = chain_after;
      files = λ file a bytes e c. elim (node_at file a e) [
        | inl h ↦ subst (λ (f : ℕ). HasFile new t.format f (l.file_data f) (l.extensions f) bytes) (sym h.0) (file_here a bytes h.1 c)
        | inr h ↦ file_kept file a bytes h.1 c (node_beside file a h.1 h.0)
      ];
      marked_free = free_after;
      marked_used = used_after;
    }
