-- A change of longs in the blocks of keys turns an image of one tree into an image of another, if it does so for each
-- node.
use Rattle.ados_change.proofs.Common.{◌≡◌, ◌≢◌, ℕ, ◌+◌, ◌-◌, ◌/◌, ◌%◌, ◌^◌, ◌<◌, ◌≤◌, ◌⊎◌, inl, inr, ◌==◌, List, length, slice_index, bit_and, not, Option, Some, is_some, IsSome, refl, sym, ap, ◌∙◌, arith, get_or_default, IsInside, has_free_bit, block_count, root_key, long, block_sum, Chained, HasText, table_entry, COMMENT_BYTE, NAME_BYTE, NEXT_IN_CHAIN, Date3, IsName, IsComment, data_count, Node, Tree, root, size_of, HasFile, Layout, Duty, HasDuty, date_at, HasNode, HasEntry, HasRoot, in_slot, Directory, File, SameBut, slice_get-index}
use Rattle.ados_change.proofs.Unchanged.{AtLongs, long-kept, bytes-kept, sum-kept, text_kept, date_kept, Stays, IsFileLong, file_stays}
use Rattle.ados_change.proofs.Loose.{Loose, Spells, same_duty}

-- the tree with these nodes and this disk date
abbrev pub renewed : Tree → (ℕ → Option Node) → Date3 → Tree
renewed t nodes d = record t { nodes = nodes; disk_date = d }

-- the longs without effect on a file's data, on the bitmap blocks or on the kind of a block: the checksum, a
-- directory's hash table, protection and comment, date and name, next-in-chain and parent, the disk date
abbrev pub Telling : Tree → ℕ → ℕ → Type 0
Telling t b j =
    (j ≡ 5) ⊎ ((((a : Node) (bytes : List ℕ) → t.nodes b ≡ Some a → a.content ≡ File bytes → ⊥) × (6 ≤ j) × (j < 78)) ⊎ (((b ≢ root t) × (80 ≤ j) × (j < 104) × (j ≢ 81))
    ⊎ (((105 ≤ j) × (j < 121)) ⊎ ((b ≢ root t) × (124 ≤ j) × (j < 126)))))

-- only such longs in the blocks of keys are written
pub record TellsOnly (t : Tree) (W : ℕ → ℕ → Type 0) : Type 0 where
  pub of_key : (b j : ℕ) → W b j → IsSome (t.nodes b)
  pub telling : (b j : ℕ) → W b j → Telling t b j

-- the new nodes have the same keys, and files have the same bytes
pub record SameFiles (t : Tree) (nodes : ℕ → Option Node) : Type 0 where
  pub same_keys : (k : ℕ) → is_some (nodes k) ≡ is_some (t.nodes k)
  pub was_file : (k : ℕ) (a : Node) (bytes : List ℕ) → nodes k ≡ Some a → a.content ≡ File bytes → (b : Node) × (t.nodes k ≡ Some b) × (b.content ≡ File bytes)
  pub same_size : (d : Date3) (k : ℕ) → size_of (renewed t nodes d) k ≡ size_of t k

module _ (old new : List ℕ) (t : Tree) (l : Layout) (s : Spells old t l) {loose_key : ℕ} (loose : Loose t loose_key) (W : ℕ → ℕ → Type 0) (tells : TellsOnly t W) (change : SameBut (AtLongs W) old new) where
  kept : (b j : ℕ) → j < 128 → ¬ W b j → long new b j ≡ long old b j
  kept = long-kept W old new change

  pub first_kept : (b j : ℕ) → j < 5 → long new b j ≡ long old b j
  first_kept b j m = kept b j (omega arith) (λ w. omega (arith, m, tells.telling b j w))

  pub last_kept : (b j : ℕ) → 126 ≤ j → j < 128 → long new b j ≡ long old b j
  last_kept b j m n = kept b j n (λ w. omega (arith, m, tells.telling b j w))

  -- the longs of a file's header that lead to its data
  header_unwritten : (b j : ℕ) (a : Node) (bytes : List ℕ) → t.nodes b ≡ Some a → a.content ≡ File bytes → IsFileLong j → ¬ W b j
  header_unwritten b j a bytes e c o w = go (tells.telling b j w)
    where
      go : Telling t b j → ⊥
      go (inl d) = omega (arith, o, d)
      go (inr (inl d)) = d.0 a bytes e c
      go (inr (inr d)) = omega (arith, o, d)

  -- a block that is used otherwise than as a key
  by_duty : (b : ℕ) (duty : Duty) → HasDuty t l b duty → duty ≢ Duty.Key → (j : ℕ) → ¬ W b j
  by_duty b duty m n j w = n (s.fits.one_duty b duty Duty.Key m (tells.of_key b j w))

  -- such a block is unchanged
  stays : (b : ℕ) (duty : Duty) → HasDuty t l b duty → duty ≢ Duty.Key → Stays old new b
  stays b duty m n = record { size = change.same_length; bytes = λ k h o. change.same_byte b k h (by_duty b duty m n (k / 4)) }

  file_kept : (file : ℕ) (a : Node) (bytes : List ℕ) → t.nodes file ≡ Some a → a.content ≡ File bytes → HasFile new t.format file (l.file_data file) (l.extensions file) bytes
  file_kept file a bytes e c =
      let held : size_of t file ≡ length bytes = rw e (rw c refl) in
      file_stays old new t.format file (l.file_data file) (l.extensions file) bytes (λ j o. kept file j (omega (arith, o)) (header_unwritten file j a bytes e c o))
      (λ q m. stays _ (Duty.Extension file q) (slice_get-index (l.extensions file) q m) (λ z. cc z)) (λ i m. stays _ (Duty.Data file i) (slice_get-index (l.file_data file) i m) (λ z. cc z))
      (omega (arith, s.fits.extensions file)) (s.fits.file_data file ∙ ap (data_count t.format) held) (s.files file a bytes e c)

  page_long : (i : ℕ) → i < length l.pages → long new (root t) (79 + i) ≡ slice_index l.pages i
  page_long i m = kept (root t) (79 + i) (omega (arith, m, s.fits.pages, loose.size.1)) (λ w. omega (arith, m, s.fits.pages, loose.size.1, tells.telling (root t) (79 + i) w)) ∙ s.root_fields.pages i m

  -- the bits of the bitmap
  marks_kept : (b : ℕ) → IsInside t.blocks b → has_free_bit new b ≡ has_free_bit old b
  unfolding has_free_bit
  marks_kept b i =
      let within : (b - 2) / 4064 < length l.pages = omega (arith, i.0, i.1, s.fits.pages) in
      let root_new : root_key (block_count new) ≡ root t = ap root_key (omega (arith, s.whole, change.same_length)) in
      let root_old : root_key (block_count old) ≡ root t = ap root_key (omega (arith, s.whole)) in
      let page_new : long new (root_key (block_count new)) (79 + (b - 2) / 4064) ≡ slice_index l.pages ((b - 2) / 4064) = ap (λ (r : ℕ). long new r (79 + (b - 2) / 4064)) root_new ∙ page_long ((b - 2) / 4064) within in
      let page_old : long old (root_key (block_count old)) (79 + (b - 2) / 4064) ≡ slice_index l.pages ((b - 2) / 4064) = ap (λ (r : ℕ). long old r (79 + (b - 2) / 4064)) root_old ∙ s.root_fields.pages ((b - 2) / 4064) within in
      let of_page = by_duty (slice_index l.pages ((b - 2) / 4064)) (Duty.Page ((b - 2) / 4064)) (slice_get-index l.pages ((b - 2) / 4064) within) (λ z. cc z) (1 + (b - 2) % 4064 / 32) in
      let value = ap (λ (x : ℕ). long new x (1 + (b - 2) % 4064 / 32)) page_new ∙ kept (slice_index l.pages ((b - 2) / 4064)) (1 + (b - 2) % 4064 / 32) (omega arith) of_page ∙ ap (λ (x : ℕ). long old x (1 + (b - 2) % 4064 / 32)) (sym page_old) in
      ap (λ (x : ℕ). not (bit_and x (2 ^ ((b - 2) % 32)) == 0)) value

  -- ---- what is unchanged in a node whose fields are not written

  pub text_stays : (b i : ℕ) (text : List ℕ) → i + length text < 512 → ((j : ℕ) → i ≤ j → j < i + 1 + length text → ¬ W b (j / 4)) → HasText old b i text → HasText new b i text
  text_stays b i text m n g = text_kept (AtLongs W) old new change b i text m n g

  pub date_stays : (b i : ℕ) → i + 2 < 128 → ((j : ℕ) → i ≤ j → j < i + 3 → ¬ W b j) → date_at new b i ≡ date_at old b i
  date_stays b i m n = date_kept (AtLongs W) old new change b i m (λ k p q. n (k / 4) p q)

  pub node_stays : (k : ℕ) (a : Node) → IsName a.name → ((j : ℕ) → 105 ≤ j → j < 116 → ¬ W k j) → block_sum new k ≡ 0 → HasNode old k a → HasNode new k a
  node_stays k a short n summed g = record {
    primary = first_kept k 0 (omega arith) ∙ g.primary;
    sum = summed;
    name = text_stays k NAME_BYTE a.name (omega (arith, short.short)) (λ j p q. n (j / 4) (omega arith) (omega (arith, q, short.short))) g.name;
    date = date_stays k 105 (omega arith) (λ j p q. n j p (omega arith)) ∙ g.date;
  }

  pub entry_stays : (k d : ℕ) (a : Node) → IsComment a.comment → ((j : ℕ) → 80 ≤ j → j < 104 → ¬ W k j) → ¬ W k 125 → HasEntry old k a d → HasEntry new k a d
  entry_stays k d a short n m g = record {
    key_field = first_kept k 1 (omega arith) ∙ g.key_field;
    protection_field = kept k 80 (omega arith) (n 80 (omega arith) (omega arith)) ∙ g.protection_field;
    comment = text_stays k COMMENT_BYTE a.comment (omega (arith, short.short)) (λ j p q. n (j / 4) (omega arith) (omega (arith, q, short.short))) g.comment;
    parent = kept k 125 (omega arith) m ∙ g.parent;
    secondary = last_kept k 127 (omega arith) (omega arith) ∙ g.secondary;
  }

  module _ (nodes : ℕ → Option Node) (d : Date3) (files : SameFiles t nodes) (disk : date_at new (root t) 118 ≡ d)
      (nodes_after : (k : ℕ) (a : Node) → nodes k ≡ Some a → HasNode new k a)
      (entries_after : (k dir : ℕ) (a : Node) → nodes k ≡ Some a → a.parent ≡ Some dir → HasEntry new k a dir)
      (chains_after : (dir : ℕ) (a : Node) (keys : List ℕ) (r : ℕ) → nodes dir ≡ Some a → a.content ≡ Directory keys → r < 72 → Chained new NEXT_IN_CHAIN (table_entry new dir r) (in_slot (renewed t nodes d) dir r)) where
    serves_back : (b : ℕ) (duty : Duty) → HasDuty (renewed t nodes d) l b duty → HasDuty t l b duty
    serves_back b = same_duty (renewed t nodes d) t l b (sym (files.same_keys b)) refl

    root_after : HasRoot new (renewed t nodes d) l
    root_after =
        let r = s.root_fields in
        record {
          table_size = first_kept (root t) 3 (omega arith) ∙ r.table_size;
          valid = kept (root t) 78 (omega arith) (λ w. omega (arith, tells.telling (root t) 78 w)) ∙ r.valid;
          pages = page_long;
          disk_date = disk;
          creation_date = date_stays (root t) 121 (omega arith) (λ j p q w. omega (arith, p, q, tells.telling (root t) j w)) ∙ r.creation_date;
          parent = kept (root t) 125 (omega arith) (λ w. omega (arith, tells.telling (root t) 125 w)) ∙ r.parent;
          secondary = last_kept (root t) 127 (omega arith) (omega arith) ∙ r.secondary;
        }

    pub reframed : Spells new (renewed t nodes d) l
    reframed = record {
      fits = record {
        pages = s.fits.pages;
        file_data = λ file. s.fits.file_data file ∙ ap (data_count t.format) (sym (files.same_size d file));
        extensions = s.fits.extensions;
        inside = λ b duty m. s.fits.inside b duty (serves_back b duty m);
        lost = s.fits.lost;
        one_duty = λ b duty other m n. s.fits.one_duty b duty other (serves_back b duty m) (serves_back b other n);
      };
      whole = change.same_length ∙ s.whole;
      boot = bytes-kept W old new change 0 0 4 (omega arith) (λ j p q w. let inside = s.fits.inside 0 Duty.Key (tells.of_key 0 (j / 4) w) in omega (arith, inside.0)) ∙ s.boot;
      root_fields = root_after;
      nodes = nodes_after;
      entries = entries_after;
      pages = λ page m. sum-kept W old new change page (λ j n. by_duty page (Duty.Page m.0) (slice_get-index l.pages m.0 m.1 ∙ ap Some (get_or_default l.pages m.0 0 page m.1 ∙ m.2)) (λ z. cc z) j) ∙ s.pages page m;
      lost = λ b bytes e. bytes-kept W old new change b 0 512 (omega arith) (λ j p q. by_duty b Duty.Lost (rw e refl) (λ z. cc z) (j / 4)) ∙ s.lost b bytes e;
      chains = chains_after;
      files = λ file a bytes e c. let w = files.was_file file a bytes e c in file_kept file w.0 bytes w.1 w.2;
      marked_free = λ b i m n. s.marked_free b i (sym (marks_kept b i) ∙ m) (n.0, serves_back b n.0 n.1);
      marked_used = λ b i m. let n = s.marked_used b i (λ f. m (marks_kept b i ∙ f)) in (n.0, same_duty t (renewed t nodes d) l b (files.same_keys b) refl n.0 n.1);
    }
