-- An image that represents a tree without lost blocks, and one that differs from it only in its bitmap. If the other one
-- has right checksums, a valid bitmap and no used block that is marked free, it represents the same tree with lost
-- blocks.
use Rattle.ados_validate.proofs.Common.{◌≡◌, ◌≢◌, ℕ, zero, suc, ◌+◌, ◌-◌, ◌/◌, ◌%◌, ◌<◌, ◌≤◌, ◌⊎◌, inl, inr, Bool, true, false, not, ◌&&◌, nat_le, nat_lt, if◌then◌else◌, List, ◌∷◌, length, slice_index, Option, Some, None, refl, sym, ap, ◌∙◌, subst, arith, and_parts, cases_Bool, cases_eq, cases_lt, false≢true, leb-true, le-leb, lt-ltb, ltb-true, not-true, get_or_default, get_or_past, COMMENT_BYTE, NAME_BYTE, NEXT_DATA, NEXT_EXTENSION, NEXT_IN_CHAIN, table_entry, SameBut, Chained, HasText, IsInside, block_count, block_sum, bytes_at, has_free_bit, long, page_count, HasFreeBit, same_bytes_at, same_long, same_sum, HasNoLost, InImage, Reached, root_of, root_page, named, start, file_byte, HasValidBitmap, IsOfBitmap, Duty, Fits, HasDuty, HasEntry, HasFile, HasNode, HasOfsData, HasRoot, Layout, Named, Stands, date_at, in_slot, LeadsToRoot, Node, Proper, Tree, root, StandsAt, count_same, reached_stands, root_is, serves_at, slice_get-index, without_lost}
use Rattle.adf_block.specs.declared.layout.Format.{Format}
use Rattle.adf_block.specs.declared.layout.Format.TheVariants.{Ffs, Ofs}
use Rattle.ados_data.proofs.Chains.{chained, next_of}
use Rattle.ados_data.proofs.Reading.{length-bytes_at}
use Rattle.ados_model.specs.declared.role.Role.TheVariants as roles
use Rattle.ados_model.specs.Tree.LeadsToRoot.{at_root, by_parent}
use Rattle.ados_model.proofs.FileFaults.{chain_head}
use Rattle.ados_model.proofs.OneTree.{one_tree}

module _ (a b : List ℕ) (u : Tree) (s : Stands a u) (same : SameBut (IsOfBitmap a) a b) where
  abbrev l : Layout
  l = s.layout

  -- the block is no bitmap block
  abbrev IsOther : ℕ → Type 0
  IsOther block = ¬ Reached a block roles.Page

  by_duty : (block : ℕ) (duty : Duty) → HasDuty u l block duty → ((p : ℕ) → duty ≢ Duty.Page p) → IsOther block
  by_duty block duty m n h =
      let at = reached_stands a u s h in
      n at.0 (s.fits.one_duty block duty (Duty.Page at.0) m (serves_at a u s roles.Page at.0 block at.1))

  beside : (block : ℕ) → IsOther block → (k : ℕ) → k / 4 ≢ 5 → k / 4 ≢ 78 → ¬ IsOfBitmap a block k
  beside block n k m f (inl page) = n page
  beside block n k m f (inr (e, inl z)) = m z
  beside block n k m f (inr (e, inr z)) = f z

  whole : (block : ℕ) → IsOther block → block ≢ root u → (k : ℕ) → ¬ IsOfBitmap a block k
  whole block n r k (inl page) = n page
  whole block n r k (inr (e, _)) = r (e ∙ root_is a u s)

  -- ---- what is unchanged

  long_stays : (block j : ℕ) → IsOther block → j < 128 → j ≢ 5 → j ≢ 78 → long b block j ≡ long a block j
  long_stays block j n m x f = same_long (IsOfBitmap a) a b same block j m (λ k e. beside block n k (λ z. x (sym e ∙ z)) (λ z. f (sym e ∙ z)))

  sum_stays : (block : ℕ) → IsOther block → block ≢ root u → block_sum b block ≡ block_sum a block
  sum_stays block n r = same_sum (IsOfBitmap a) a b same block (λ k m. whole block n r k)

  -- bytes behind the pointers to bitmap blocks
  bytes_stay : (block i n : ℕ) → IsOther block → 316 ≤ i → i + n ≤ 512 → bytes_at b block i n ≡ bytes_at a block i n
  bytes_stay block i n o h m = same_bytes_at (IsOfBitmap a) a b same block i n m (λ k from below. beside block o k (λ z. omega (arith, z, from, h)) (λ z. omega (arith, z, from, h)))

  text_stays : (block i : ℕ) (text : List ℕ) → IsOther block → 316 ≤ i → i + 1 + length text ≤ 512 → HasText a block i text → HasText b block i text
  text_stays block i text o h m g = record {
    counted = same.same_byte block i (omega (arith, m)) (beside block o i (λ z. omega (arith, z, h)) (λ z. omega (arith, z, h))) ∙ g.counted;
    follows = bytes_stay block (i + 1) (length text) o (omega (arith, h)) m ∙ g.follows;
  }

  date_stays : (block i : ℕ) → IsOther block → 79 ≤ i → i + 2 < 128 → date_at b block i ≡ date_at a block i
  date_stays block i o h m = λ k. record { days = one i (omega (arith, h)) (omega (arith, m)) k; minutes = one (i + 1) (omega (arith, h)) (omega (arith, m)) k; ticks = one (i + 2) (omega (arith, h)) m k }
    where
      one : (j : ℕ) → 79 ≤ j → j < 128 → long b block j ≡ long a block j
      one j from below = long_stays block j o below (λ z. omega (arith, z, from)) (λ z. omega (arith, z, from))

  -- ---- which blocks these are

  node_other : (key : ℕ) (node : Node) → u.nodes key ≡ Some node → IsOther key
  node_other key node e = by_duty key Duty.Key (rw e refl) (λ p z. cc z)

  root_other : IsOther (root u)
  root_other = node_other (root u) s.proper.root_node.0 s.proper.root_node.1

  boot_other : (block : ℕ) → block < 2 → IsOther block
  boot_other block m h =
      let at = reached_stands a u s h in
      let inside = s.fits.inside block (Duty.Page at.0) (serves_at a u s roles.Page at.0 block at.1) in
      omega (arith, m, inside.0)

  root_high : 2 ≤ root u
  root_high = let inside = s.proper.inside (root u) s.proper.root_node.0 s.proper.root_node.1 in inside.0

  -- a block with another use than as a key is not the root
  not_root : (block : ℕ) (duty : Duty) → HasDuty u l block duty → duty ≢ Duty.Key → block ≢ root u
  not_root block duty m n e =
      let key : HasDuty u l block Duty.Key = rw (ap u.nodes e ∙ s.proper.root_node.1) refl in
      n (s.fits.one_duty block duty Duty.Key m key)

  extension_duty : (file i : ℕ) → i < length (l.extensions file) → HasDuty u l (slice_index (l.extensions file) i) (Duty.Extension file i)
  extension_duty file i m = slice_get-index (l.extensions file) i m

  extension_other : (file i : ℕ) → i < length (l.extensions file) → IsOther (slice_index (l.extensions file) i)
  extension_other file i m = by_duty (slice_index (l.extensions file) i) (Duty.Extension file i) (extension_duty file i m) (λ p z. cc z)

  header_other : (file i : ℕ) → IsOther file → i ≤ length (l.extensions file) → IsOther (slice_index (file ∷ l.extensions file) i)
  header_other file zero o m = o
  header_other file (suc i) o m = extension_other file i (omega arith)

  -- block 0 is at each position past the end of a list
  data_other : (file i : ℕ) → IsOther (slice_index (l.file_data file) i)
  data_other file i = elim (cases_lt i (length (l.file_data file))) [
    | inl m ↦ by_duty (slice_index (l.file_data file) i) (Duty.Data file i) (slice_get-index (l.file_data file) i m) (λ p z. cc z)
    | inr m ↦ subst IsOther (sym (get_or_past (l.file_data file) i 0 m)) (boot_other 0 (omega arith))
  ]

  data_not_root : (file i : ℕ) → slice_index (l.file_data file) i ≢ root u
  data_not_root file i = elim (cases_lt i (length (l.file_data file))) [
    | inl m ↦ not_root (slice_index (l.file_data file) i) (Duty.Data file i) (slice_get-index (l.file_data file) i m) (λ z. cc z)
    | inr m ↦ λ e. omega (arith, e, get_or_past (l.file_data file) i 0 m, root_high)
  ]

  entry_other : (dir r i : ℕ) → r < 72 → i < length (in_slot u dir r) → IsOther (slice_index (in_slot u dir r) i)
  entry_other dir r i small m =
      let block = slice_index (in_slot u dir r) i in
      let at : StandsAt a u s (roles.Entry dir r) i block = record { within = m; here = refl; holder = small } in
      by_duty block Duty.Key (serves_at a u s (roles.Entry dir r) i block at) (λ p z. cc z)

  -- ---- linked lists

  chain_stays : (link first : ℕ) (xs : List ℕ) → ((i : ℕ) → i < length xs → long b (slice_index xs i) link ≡ long a (slice_index xs i) link) → Chained a link first xs → Chained b link first xs
  chain_stays link first xs kept c = chained b link first xs (chain_head a link first xs c) (λ i m. kept i m ∙ next_of a link first xs c i m)

  -- ---- files

  file_byte_stays : (file k : ℕ) (format : Format) → file_byte format b (l.file_data file) k ≡ file_byte format a (l.file_data file) k
  file_byte_stays file k Ofs = same.same_byte (slice_index (l.file_data file) (k / 488)) (24 + k % 488) (omega arith) (whole (slice_index (l.file_data file) (k / 488)) (data_other file (k / 488)) (data_not_root file (k / 488)) (24 + k % 488))
  file_byte_stays file k Ffs = same.same_byte (slice_index (l.file_data file) (k / 512)) (0 + k % 512) (omega arith) (whole (slice_index (l.file_data file) (k / 512)) (data_other file (k / 512)) (data_not_root file (k / 512)) (0 + k % 512))

  data_stays : (file size i : ℕ) → HasOfsData a file size i (slice_index (l.file_data file) i) → HasOfsData b file size i (slice_index (l.file_data file) i)
  data_stays file size i g =
      let o = data_other file i in
      let block = slice_index (l.file_data file) i in
      record {
        primary = long_stays block 0 o (omega arith) (omega arith) (omega arith) ∙ g.primary;
        header = long_stays block 1 o (omega arith) (omega arith) (omega arith) ∙ g.header;
        sequence = long_stays block 2 o (omega arith) (omega arith) (omega arith) ∙ g.sequence;
        held = long_stays block 3 o (omega arith) (omega arith) (omega arith) ∙ g.held;
        sum = sum_stays block o (data_not_root file i) ∙ g.sum;
      }

  file_stays : (file : ℕ) (bytes : List ℕ) → IsOther file → HasFile a u.format file (l.file_data file) (l.extensions file) bytes → HasFile b u.format file (l.file_data file) (l.extensions file) bytes
  file_stays file bytes o g = record {
    size = long_stays file 81 o (omega arith) (omega arith) (omega arith) ∙ g.size;
    chain =
        subst (λ (first : ℕ). Chained b NEXT_EXTENSION first (l.extensions file)) (sym (long_stays file 126 o (omega arith) (omega arith) (omega arith)))
        (chain_stays NEXT_EXTENSION (long a file NEXT_EXTENSION) (l.extensions file) (λ i m. long_stays (slice_index (l.extensions file) i) 126 (extension_other file i m) (omega arith) (omega arith) (omega arith)) g.chain);
    extension = λ i m.
        let x = g.extension i m in
        let block = slice_index (l.extensions file) i in
        let e = extension_other file i m in
        record {
          primary = long_stays block 0 e (omega arith) (omega arith) (omega arith) ∙ x.primary;
          key_field = long_stays block 1 e (omega arith) (omega arith) (omega arith) ∙ x.key_field;
          sum = sum_stays block e (not_root block (Duty.Extension file i) (extension_duty file i m) (λ z. cc z)) ∙ x.sum;
          parent = long_stays block 125 e (omega arith) (omega arith) (omega arith) ∙ x.parent;
          secondary = long_stays block 127 e (omega arith) (omega arith) (omega arith) ∙ x.secondary;
        };
    counts = λ i m. long_stays (slice_index (file ∷ l.extensions file) i) 2 (header_other file i o m) (omega arith) (omega arith) (omega arith) ∙ g.counts i m;
    pointers = λ i m.
        let q : i / 72 ≤ length (l.extensions file) = omega (arith, m, s.fits.extensions file) in
        let x : 77 - i % 72 ≢ 5 = λ z. omega (arith, z) in
        let f : 77 - i % 72 ≢ 78 = λ z. omega (arith, z) in
        long_stays (slice_index (file ∷ l.extensions file) (i / 72)) (77 - i % 72) (header_other file (i / 72) o q) (omega arith) x f ∙ g.pointers i m;
    contents = λ k m. g.contents k m ∙ sym (file_byte_stays file k u.format);
    ofs_chain = λ e.
        subst (λ (first : ℕ). Chained b NEXT_DATA first (l.file_data file)) (sym (long_stays file 4 o (omega arith) (omega arith) (omega arith)))
        (chain_stays NEXT_DATA (long a file NEXT_DATA) (l.file_data file) (λ i m. long_stays (slice_index (l.file_data file) i) 4 (data_other file i) (omega arith) (omega arith) (omega arith)) (g.ofs_chain e));
    ofs_data = λ e i m. data_stays file (length bytes) i (g.ofs_data e i m);
  }

  -- ---- nodes and entries

  entry_stays : (key dir : ℕ) (node : Node) → u.nodes key ≡ Some node → HasEntry a key node dir → HasEntry b key node dir
  entry_stays key dir node e g =
      let o = node_other key node e in
      let short = s.proper.comment key node e in
      record {
        key_field = long_stays key 1 o (omega arith) (omega arith) (omega arith) ∙ g.key_field;
        protection_field = long_stays key 80 o (omega arith) (omega arith) (omega arith) ∙ g.protection_field;
        comment = text_stays key COMMENT_BYTE node.comment o (omega arith) (omega (arith, short.short)) g.comment;
        parent = long_stays key 125 o (omega arith) (omega arith) (omega arith) ∙ g.parent;
        secondary = long_stays key 127 o (omega arith) (omega arith) (omega arith) ∙ g.secondary;
      }

  slot_stays : (dir r : ℕ) (node : Node) → u.nodes dir ≡ Some node → r < 72 → Chained a NEXT_IN_CHAIN (table_entry a dir r) (in_slot u dir r) → Chained b NEXT_IN_CHAIN (table_entry b dir r) (in_slot u dir r)
  slot_stays dir r node e m c =
      let x : 6 + r ≢ 5 = λ z. omega (arith, z) in
      let f : 6 + r ≢ 78 = λ z. omega (arith, z, m) in
      subst (λ (first : ℕ). Chained b NEXT_IN_CHAIN first (in_slot u dir r)) (sym (long_stays dir (6 + r) (node_other dir node e) (omega (arith, m)) x f))
      (chain_stays NEXT_IN_CHAIN (table_entry a dir r) (in_slot u dir r) (λ i n. long_stays (slice_index (in_slot u dir r) i) 124 (entry_other dir r i m n) (omega arith) (omega arith) (omega arith)) c)

  module _ (valid : HasValidBitmap b) (root_sum : block_sum b (root_of a) ≡ 0) (page_sums : (page : ℕ) → Reached a page roles.Page → block_sum b page ≡ 0)
      (used : (block : ℕ) → InImage a block → ¬ HasFreeBit a block → ¬ HasFreeBit b block) (no_lost : HasNoLost u) where
    node_stays : (key : ℕ) (node : Node) → u.nodes key ≡ Some node → HasNode b key node
    node_stays key node e =
        let o = node_other key node e in
        let g = s.nodes key node e in
        let short = s.proper.name key node e in
        record {
          primary = long_stays key 0 o (omega arith) (omega arith) (omega arith) ∙ g.primary;
          sum = elim (cases_eq key (root u)) [
            | inl r ↦ ap (block_sum b) (r ∙ sym (root_is a u s)) ∙ root_sum
            | inr n ↦ sum_stays key o n ∙ g.sum
          ];
          name = text_stays key NAME_BYTE node.name o (omega arith) (omega (arith, short.short)) g.name;
          date = date_stays key 105 o (omega arith) (omega arith) ∙ g.date;
        }

    -- ---- the lost blocks

    unfoldable pub is_lost : ℕ → Bool
    is_lost block = nat_le 2 block && (nat_lt block (block_count a) && (has_free_bit a block && not (has_free_bit b block)))

    abbrev lost_of : ℕ → Option (List ℕ)
    lost_of block = if is_lost block then Some (bytes_at b block 0 512) else None

    -- the tree with lost blocks
    abbrev v : Tree
    v = record u { lost = lost_of }

    record IsLost (block : ℕ) : Type 0 where
      inside : InImage a block
      free : has_free_bit a block ≡ true
      not_free : has_free_bit b block ≡ false

    lost_means : (block : ℕ) → is_lost block ≡ true → IsLost block
    unfolding is_lost
    lost_means block e =
        let one = and_parts _ _ e in
        let two = and_parts _ _ one.1 in
        let three = and_parts _ _ two.1 in
        record { inside = (leb-true 2 block one.0, ltb-true block (block_count a) two.0); free = three.0; not_free = not-true _ three.1 }

    lost_view : (block : ℕ) (bytes : List ℕ) → lost_of block ≡ Some bytes → IsLost block × (bytes ≡ bytes_at b block 0 512)
    lost_view block bytes h = go (cases_Bool (is_lost block))
      where
        go : (is_lost block ≡ true) ⊎ (is_lost block ≡ false) → IsLost block × (bytes ≡ bytes_at b block 0 512)
        go (inl e) =
            let there = rw e at h in
            let are : bytes ≡ bytes_at b block 0 512 = cc there in
            (lost_means block e, are)
        go (inr e) = let none = rw e at h in absurd (cc none)

    lost_here : (block : ℕ) → IsLost block → lost_of block ≡ Some (bytes_at b block 0 512)
    unfolding is_lost
    lost_here block h = rw (le-leb 2 block h.inside.0, lt-ltb block (block_count a) h.inside.1, h.free, h.not_free) refl

    some_lost : (block : ℕ) → HasDuty v l block Duty.Lost → IsLost block
    some_lost block m = go (cases_Bool (is_lost block))
      where
        go : (is_lost block ≡ true) ⊎ (is_lost block ≡ false) → IsLost block
        go (inl e) = lost_means block e
        go (inr e) = let none = rw e at m in absurd (false≢true none)

    -- ---- the uses

    -- a block is lost, or has a use of the tree without lost blocks
    data DutyView (block : ℕ) (duty : Duty) : Type 0 where
      was : duty ≢ Duty.Lost → HasDuty u l block duty → DutyView block duty
      is_now : duty ≡ Duty.Lost → IsLost block → DutyView block duty

    view : (block : ℕ) (duty : Duty) → HasDuty v l block duty → DutyView block duty
    view block (Duty.Page i) m = was (λ z. cc z) m
    view block Duty.Key m = was (λ z. cc z) m
    view block (Duty.Data file i) m = was (λ z. cc z) m
    view block (Duty.Extension file i) m = was (λ z. cc z) m
    view block Duty.Lost m = is_now refl (some_lost block m)

    serves_on : (block : ℕ) (duty : Duty) → HasDuty u l block duty → HasDuty v l block duty
    serves_on block (Duty.Page i) m = m
    serves_on block Duty.Key m = m
    serves_on block (Duty.Data file i) m = m
    serves_on block (Duty.Extension file i) m = m
    serves_on block Duty.Lost m = let none = rw (no_lost block) at m in absurd (false≢true none)

    count : block_count a ≡ u.blocks
    count = count_same a u s

    -- a block with such a use is marked used
    in_use : (block : ℕ) (duty : Duty) → HasDuty u l block duty → ¬ HasFreeBit a block
    in_use block duty m free = s.marked_free block (s.fits.inside block duty m) free (duty, m)

    view_inside : (block : ℕ) (duty : Duty) → DutyView block duty → IsInside u.blocks block
    view_inside block duty (was n m) = s.fits.inside block duty m
    view_inside block duty (is_now e lost) = (lost.inside.0, omega (arith, lost.inside.1, count))

    one_duty : (block : ℕ) (duty other : Duty) → DutyView block duty → DutyView block other → duty ≡ other
    one_duty block duty other (was n m) (was n' m') = s.fits.one_duty block duty other m m'
    one_duty block duty other (was n m) (is_now e lost) = absurd (in_use block duty m lost.free)
    one_duty block duty other (is_now e lost) (was n m) = absurd (in_use block other m lost.free)
    one_duty block duty other (is_now e lost) (is_now e' lost') = e ∙ sym e'

    lost_length : (block : ℕ) (bytes : List ℕ) → lost_of block ≡ Some bytes → length bytes ≡ 512
    lost_length block bytes h =
        let there = lost_view block bytes h in
        let within : block < block_count b = omega (arith, there.0.inside.1, same.same_length) in
        ap (λ (xs : List ℕ). length xs) there.1 ∙ length-bytes_at b block 0 512 within (omega arith)

    fits : Fits v l
    fits = record {
      pages = s.fits.pages;
      file_data = s.fits.file_data;
      extensions = s.fits.extensions;
      inside = λ block duty m. view_inside block duty (view block duty m);
      lost = lost_length;
      one_duty = λ block duty other m n. one_duty block duty other (view block duty m) (view block other n);
    }

    leads_on : (key : ℕ) → LeadsToRoot u key → LeadsToRoot v key
    leads_on key (at_root e) = at_root e
    leads_on key (by_parent {dir = dir} p q) = by_parent p (leads_on dir q)

    proper : Proper v
    proper = record {
      size = s.proper.size;
      inside = s.proper.inside;
      root_node = s.proper.root_node;
      listed = s.proper.listed;
      once = s.proper.once;
      unlike = s.proper.unlike;
      rising = s.proper.rising;
      rooted = λ key node e. leads_on key (s.proper.rooted key node e);
      name = s.proper.name;
      comment = s.proper.comment;
    }

    -- ---- the bits

    free_unnamed : (block : ℕ) → IsInside u.blocks block → HasFreeBit b block → ¬ Named v l block
    free_unnamed block inside free use_of = go (view block use_of.0 use_of.1)
      where
        go : DutyView block use_of.0 → ⊥
        go (was n m) = used block (inside.0, omega (arith, inside.1, count)) (in_use block use_of.0 m) free
        go (is_now e lost) = false≢true (sym lost.not_free ∙ free)

    used_named : (block : ℕ) → IsInside u.blocks block → ¬ HasFreeBit b block → Named v l block
    used_named block inside n = go (cases_Bool (has_free_bit a block)) (cases_Bool (has_free_bit b block))
      where
        go : (has_free_bit a block ≡ true) ⊎ (has_free_bit a block ≡ false) → (has_free_bit b block ≡ true) ⊎ (has_free_bit b block ≡ false) → Named v l block
        go x (inl e) = absurd (n e)
        go (inl f) (inr e) =
            let lost = lost_here block (record { inside = (inside.0, omega (arith, inside.1, count)); free = f; not_free = e }) in
            (Duty.Lost, rw lost refl)
        go (inr f) (inr e) =
            let use_of = s.marked_used block inside (λ z. false≢true (sym f ∙ z)) in
            (use_of.0, serves_on block use_of.0 use_of.1)

    -- ---- the root

    root_stays : HasRoot b v l
    root_stays =
        let g = s.root_fields in
        record {
          table_size = long_stays (root u) 3 root_other (omega arith) (omega arith) (omega arith) ∙ g.table_size;
          valid = ap (λ (block : ℕ). long b block 78) (sym (root_is a u s) ∙ root_b) ∙ valid;
          pages = λ i m.
              let few : i < 25 = omega (arith, m, s.fits.pages, s.proper.size.1) in
              let x : 79 + i ≢ 5 = λ z. omega (arith, z) in
              let f : 79 + i ≢ 78 = λ z. omega (arith, z) in
              long_stays (root u) (79 + i) root_other (omega (arith, few)) x f ∙ g.pages i m;
          disk_date = date_stays (root u) 118 root_other (omega arith) (omega arith) ∙ g.disk_date;
          creation_date = date_stays (root u) 121 root_other (omega arith) (omega arith) ∙ g.creation_date;
          parent = long_stays (root u) 125 root_other (omega arith) (omega arith) (omega arith) ∙ g.parent;
          secondary = long_stays (root u) 127 root_other (omega arith) (omega arith) (omega arith) ∙ g.secondary;
        }
      where
        root_b : root_of a ≡ root_of b
        root_b = ap (λ (n : ℕ). (n + 1) / 2) (ap (λ (n : ℕ). n / 512) (sym same.same_length))

    pub stands : Stands b v
    stands = record {
      proper = proper;
      layout = l;
      fits = fits;
      whole = same.same_length ∙ s.whole;
      boot = boot_stays ∙ s.boot;
      root_fields = root_stays;
      nodes = node_stays;
      entries = λ key dir node e p. entry_stays key dir node e (s.entries key dir node e p);
      pages = λ page m.
          let there : slice_index l.pages m.0 ≡ page = get_or_default l.pages m.0 0 page m.1 ∙ m.2 in
          page_sums page (page_reached m.0 page m.1 there);
      lost = λ block bytes h. sym (lost_view block bytes h).1;
      chains = λ dir node keys r e c m. slot_stays dir r node e m (s.chains dir node keys r e c m);
      files = λ file node bytes e c. file_stays file bytes (node_other file node e) (s.files file node bytes e c);
      marked_free = free_unnamed;
      marked_used = used_named;
    }
      where
        boot_stays : bytes_at b 0 0 4 ≡ bytes_at a 0 0 4
        boot_stays = same_bytes_at (IsOfBitmap a) a b same 0 0 4 (omega arith) (λ k from below. whole 0 (boot_other 0 (omega arith)) (λ e. omega (arith, e, root_high)) k)

        page_reached : (p page : ℕ) → p < length l.pages → slice_index l.pages p ≡ page → Reached a page roles.Page
        page_reached p page m e =
            let link : long a (root_of a) (79 + p) ≡ page = ap (λ (c : ℕ). long a c (79 + p)) (root_is a u s) ∙ s.root_fields.pages p m ∙ e in
            let inside = s.fits.inside page (Duty.Page p) (slice_get-index l.pages p m ∙ ap Some e) in
            let there : InImage a (long a (root_of a) (79 + p)) = (omega (arith, inside.0, link), omega (arith, inside.1, link, count)) in
            let within : p < page_count (block_count a) = omega (arith, m, s.fits.pages, ap page_count count) in
            subst (λ (x : ℕ). Reached a x roles.Page) link (named start (root_page within) there)

    -- the only tree of the other image is that without lost blocks, but for them
    pub same_tree : (t : Tree) → Stands b t → Stands a (without_lost t)
    same_tree t r =
        let is : t ≡ v = one_tree b t v r stands in
        let bare : u ≡ without_lost v = λ i. record u { lost = λ block. no_lost block i } in
        subst (λ (x : Tree). Stands a (without_lost x)) (sym is) (subst (Stands a) bare s)
