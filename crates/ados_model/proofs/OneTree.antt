-- An image represents at most one tree.
use Rattle.ados_model.proofs.Common.{◌≡◌, ◌≢◌, ℕ, ◌+◌, ◌/◌, ◌%◌, ◌<◌, ◌⊎◌, inl, inr, List, [], ◌∷◌, length, slice_index, slice_get, Contains, Option, Some, None, IsSome, is_some, option_map, refl, sym, ap, ap₂, ◌∙◌, subst, arith, AllByRecursion, ext_get_or, nil_from_length, get_or_default, false≢true, recursion_from_All, Format, Ofs, Ffs, root_key, page_count, IsInside, long, bytes_at, HasText, table_entry, pointer, Content, Node, Tree, LeadsToRoot, root, content_at, entries_in, entries, size_of, data_count, extension_count, size_in, Directory, File, at_root, by_parent, Layout, Fits, Duty, HasDuty, Stands, format_byte, type_of, date_at, in_slot, COMMENT_BYTE, NAME_BYTE, NEXT_IN_CHAIN, NEXT_EXTENSION, OneTree}
use Rattle.ados_model.specs.File.{file_byte}
use Rattle.ados_model.proofs.Lists.{joined-same, Chained-one}
use Rattle.ados_model.proofs.Nodes.{entry_node, parent_lists, in_slot_not_zero, entries_by_slot, entries_of_directory, parent_in, content_in}
use Rattle.ados_model.proofs.Counting.{no_data as data_count-zero}
use Rattle.ados_model.proofs.Standing.{slice_get-index}

format_byte-one : (f g : Format) → format_byte f ≡ format_byte g → f ≡ g
format_byte-one Ofs Ofs e = refl
format_byte-one Ofs Ffs e = absurd (omega (arith, e))
format_byte-one Ffs Ofs e = absurd (omega (arith, e))
format_byte-one Ffs Ffs e = refl

-- a text field has one text
HasText-one : (image : List ℕ) (block i : ℕ) (a b : List ℕ) → HasText image block i a → HasText image block i b → a ≡ b
HasText-one image block i a b h k =
    let same : length a ≡ length b = sym h.counted ∙ k.counted in
    sym h.follows ∙ ap (λ (n : ℕ). bytes_at image block (i + 1) n) same ∙ k.follows

-- no extension or data block of a file is block 0
extensions_not_zero : (t : Tree) (l : Layout) → Fits t l → (file : ℕ) → AllByRecursion (λ b. b ≢ 0) (l.extensions file)
extensions_not_zero t l fits file =
    recursion_from_All (λ b. b ≢ 0) (l.extensions file)
    (λ k d m z.
    let inside = fits.inside (slice_index (l.extensions file) k) (Duty.Extension file k) (slice_get-index (l.extensions file) k m) in
    omega (arith, inside.0, z, get_or_default (l.extensions file) k d 0 m))

module _ (image : List ℕ) (t u : Tree) (s : Stands image t) (r : Stands image u) where
  blocks_same : t.blocks ≡ u.blocks
  blocks_same = omega (arith, s.whole, r.whole)

  root_same : root t ≡ root u
  root_same = ap root_key blocks_same

  format_same : t.format ≡ u.format
  format_same =
      let e : (68 ∷ 79 ∷ 83 ∷ format_byte t.format ∷ []) ≡ (68 ∷ 79 ∷ 83 ∷ format_byte u.format ∷ []) = sym s.boot ∙ r.boot in
      format_byte-one t.format u.format (cc e)

  -- a directory in both trees has the same entries
  keys_same : (dir : ℕ) (a b : Node) (js ks : List ℕ) → t.nodes dir ≡ Some a → u.nodes dir ≡ Some b → a.content ≡ Directory js → b.content ≡ Directory ks → js ≡ ks
  keys_same dir a b js ks e f c d =
      let slots : (n : ℕ) → n < 72 → in_slot t dir n ≡ in_slot u dir n = λ n l.
      Chained-one image NEXT_IN_CHAIN (table_entry image dir n) (in_slot t dir n) (in_slot u dir n)
      (s.chains dir a js n e c l) (r.chains dir b ks n f d l)
      (in_slot_not_zero t s.proper dir n) (in_slot_not_zero u r.proper dir n) in
      sym (entries_of_directory t s.proper dir a js e c)
      ∙ entries_by_slot t s.proper dir
      ∙ joined-same (in_slot t dir) (in_slot u dir) 72 slots
      ∙ sym (entries_by_slot u r.proper dir)
      ∙ entries_of_directory u r.proper dir b ks f d

  -- a file in both trees has the same extension blocks
  extensions_same : (file : ℕ) (a b : Node) (xs ys : List ℕ) → t.nodes file ≡ Some a → u.nodes file ≡ Some b → a.content ≡ File xs → b.content ≡ File ys → s.layout.extensions file ≡ r.layout.extensions file
  extensions_same file a b xs ys e f c d =
      Chained-one image NEXT_EXTENSION (long image file NEXT_EXTENSION) (s.layout.extensions file) (r.layout.extensions file)
      (s.files file a xs e c).chain (r.files file b ys f d).chain
      (extensions_not_zero t s.layout s.fits file) (extensions_not_zero u r.layout r.fits file)

  sizes_same : (file : ℕ) (a b : Node) (xs ys : List ℕ) → t.nodes file ≡ Some a → u.nodes file ≡ Some b → a.content ≡ File xs → b.content ≡ File ys → length xs ≡ length ys
  sizes_same file a b xs ys e f c d = sym (s.files file a xs e c).size ∙ (r.files file b ys f d).size

  -- a file in both trees has the same data blocks
  data_same : (file : ℕ) (a b : Node) (xs ys : List ℕ) → t.nodes file ≡ Some a → u.nodes file ≡ Some b → a.content ≡ File xs → b.content ≡ File ys → s.layout.file_data file ≡ r.layout.file_data file
  data_same file a b xs ys e f c d =
      let size_t : size_of t file ≡ length xs = rw (e, c) refl in
      let size_u : size_of u file ≡ length ys = rw (f, d) refl in
      let lengths : length (s.layout.file_data file) ≡ length (r.layout.file_data file) =
      s.fits.file_data file
      ∙ ap₂ data_count format_same (size_t ∙ sizes_same file a b xs ys e f c d ∙ sym size_u)
      ∙ sym (r.fits.file_data file) in
      ext_get_or 0 (s.layout.file_data file) (r.layout.file_data file) lengths
      (λ i l. sym ((s.files file a xs e c).pointers i l)
      ∙ ap (λ (extensions : List ℕ). pointer image (slice_index (file ∷ extensions) (i / 72)) (i % 72)) (extensions_same file a b xs ys e f c d)
      ∙ (r.files file b ys f d).pointers i (omega (arith, l, lengths)))

  bytes_same : (file : ℕ) (a b : Node) (xs ys : List ℕ) → t.nodes file ≡ Some a → u.nodes file ≡ Some b → a.content ≡ File xs → b.content ≡ File ys → xs ≡ ys
  bytes_same file a b xs ys e f c d =
      let lengths = sizes_same file a b xs ys e f c d in
      ext_get_or 0 xs ys lengths
      (λ k l. (s.files file a xs e c).contents k l
      ∙ ap₂ (λ (format : Format) (blocks : List ℕ). file_byte format image blocks k) format_same (data_same file a b xs ys e f c d)
      ∙ sym ((r.files file b ys f d).contents k (omega (arith, l, lengths))))

  content_same : (key : ℕ) (a b : Node) → t.nodes key ≡ Some a → u.nodes key ≡ Some b → type_of a.content ≡ type_of b.content → a.content ≡ b.content
  content_same key a b e f = go a.content b.content refl refl
    where
      go : (c d : Content) → a.content ≡ c → b.content ≡ d → type_of c ≡ type_of d → c ≡ d
      go (Directory js) (Directory ks) c d h = ap Directory (keys_same key a b js ks e f c d)
      go (Directory js) (File ys) c d h = absurd (omega (arith, h))
      go (File xs) (Directory ks) c d h = absurd (omega (arith, h))
      go (File xs) (File ys) c d h = ap File (bytes_same key a b xs ys e f c d)

  -- the nodes of a key with a parent are equal
  child_same : (key dir : ℕ) (a b : Node) → t.nodes key ≡ Some a → u.nodes key ≡ Some b → a.parent ≡ Some dir → b.parent ≡ Some dir → a ≡ b
  child_same key dir a b e f p q =
      let h = s.entries key dir a e p in
      let k = r.entries key dir b f q in
      let name = HasText-one image key NAME_BYTE a.name b.name (s.nodes key a e).name (r.nodes key b f).name in
      let comment = HasText-one image key COMMENT_BYTE a.comment b.comment h.comment k.comment in
      let content = content_same key a b e f (sym h.secondary ∙ k.secondary) in
      let parent : a.parent ≡ b.parent = p ∙ sym q in
      let protected : a.protection ≡ b.protection = sym h.protection_field ∙ k.protection_field in
      let date : a.date ≡ b.date = sym (s.nodes key a e).date ∙ (r.nodes key b f).date in
      λ i. record { name = name i; parent = parent i; protection = protected i; date = date i; comment = comment i; content = content i }

  -- the two roots are equal
  roots_same : (key : ℕ) → key ≡ root t → t.nodes key ≡ u.nodes key
  roots_same key e =
      let m = s.proper.root_node in
      let n = r.proper.root_node in
      let at_t : t.nodes key ≡ Some m.0 = ap t.nodes e ∙ m.1 in
      let at_u : u.nodes key ≡ Some n.0 = ap u.nodes (e ∙ root_same) ∙ n.1 in
      let name = HasText-one image key NAME_BYTE m.0.name n.0.name (s.nodes key m.0 at_t).name (r.nodes key n.0 at_u).name in
      let parent : m.0.parent ≡ n.0.parent = m.2.no_parent ∙ sym n.2.no_parent in
      let protected : m.0.protection ≡ n.0.protection = m.2.no_protection ∙ sym n.2.no_protection in
      let date : m.0.date ≡ n.0.date = sym (s.nodes key m.0 at_t).date ∙ (r.nodes key n.0 at_u).date in
      let comment : m.0.comment ≡ n.0.comment = m.2.no_comment ∙ sym n.2.no_comment in
      let keys = keys_same key m.0 n.0 m.2.keys n.2.keys at_t at_u m.2.directory n.2.directory in
      let content : m.0.content ≡ n.0.content = m.2.directory ∙ ap Directory keys ∙ sym n.2.directory in
      let node : m.0 ≡ n.0 = λ i. record { name = name i; parent = parent i; protection = protected i; date = date i; comment = comment i; content = content i } in
      at_t ∙ ap Some node ∙ sym at_u

  -- each node of one tree, from the root downwards, is a node of the other
  nodes_follow : (key : ℕ) → LeadsToRoot t key → t.nodes key ≡ u.nodes key
  nodes_follow key (at_root e) = roots_same key e
  nodes_follow key (by_parent {dir = dir} p q) =
      let above = nodes_follow dir q in
      let n = parent_in (t.nodes key) dir p in
      let listed = parent_lists t s.proper dir key n.0 n.1 n.2 in
      let same : entries t dir ≡ entries u dir = ap (λ (o : Option Node). entries_in (option_map (λ node. node.content) o)) above in
      let m = entry_node u r.proper dir key (subst (λ (keys : List ℕ). Contains keys key) same listed) in
      n.1 ∙ ap Some (child_same key dir n.0 m.0 n.1 m.1 n.2 m.2) ∙ sym m.1

nodes_same : (image : List ℕ) (t u : Tree) (s : Stands image t) (r : Stands image u) (key : ℕ) → t.nodes key ≡ u.nodes key
nodes_same image t u s r key = go (t.nodes key) (u.nodes key) refl refl
  where
    go : (o p : Option Node) → t.nodes key ≡ o → u.nodes key ≡ p → t.nodes key ≡ u.nodes key
    go (Some a) p e f = nodes_follow image t u s r key (s.proper.rooted key a e)
    go None (Some b) e f = sym (nodes_follow image u t r s key (r.proper.rooted key b f))
    go None None e f = e ∙ sym f

module _ (image : List ℕ) (t u : Tree) (s : Stands image t) (r : Stands image u) where
  contents_same : (key : ℕ) → content_at t key ≡ content_at u key
  contents_same key = ap (λ (o : Option Node). option_map (λ node. node.content) o) (nodes_same image t u s r key)

  -- a key that is a file in neither tree has no data blocks
  no_data : (file : ℕ) → size_of t file ≡ 0 → (length (s.layout.file_data file) ≡ 0) × (length (r.layout.file_data file) ≡ 0)
  no_data file e =
      let size_u : size_of u file ≡ 0 = ap size_in (sym (contents_same file)) ∙ e in (
        s.fits.file_data file ∙ ap (data_count t.format) e ∙ data_count-zero t.format,
        r.fits.file_data file ∙ ap (data_count u.format) size_u ∙ data_count-zero u.format,
      )

  -- a list of blocks that is the same for each file, and empty for any other key
  all_same : (xs ys : List ℕ) (file : ℕ) → (size_of t file ≡ 0 → (length xs ≡ 0) × (length ys ≡ 0))
      → ((a b : Node) (bytes : List ℕ) → t.nodes file ≡ Some a → u.nodes file ≡ Some b → a.content ≡ File bytes → b.content ≡ File bytes → xs ≡ ys) → xs ≡ ys
  all_same xs ys file none same = go (content_at t file) refl
    where
      empty : size_of t file ≡ 0 → xs ≡ ys
      empty e = let n = none e in nil_from_length xs n.0 ∙ sym (nil_from_length ys n.1)

      go : (o : Option Content) → content_at t file ≡ o → xs ≡ ys
      go None e = empty (ap size_in e)
      go (Some (Directory keys)) e = empty (ap size_in e)
      go (Some (File bytes)) e =
          let m = content_in (t.nodes file) (File bytes) e in
          let n = content_in (u.nodes file) (File bytes) (sym (contents_same file) ∙ e) in
          same m.0 n.0 bytes m.1 n.1 m.2 n.2

  all_data_same : (file : ℕ) → s.layout.file_data file ≡ r.layout.file_data file
  all_data_same file = all_same (s.layout.file_data file) (r.layout.file_data file) file (no_data file) (λ a b bytes. data_same image t u s r file a b bytes bytes)

  all_extensions_same : (file : ℕ) → s.layout.extensions file ≡ r.layout.extensions file
  all_extensions_same file =
      all_same (s.layout.extensions file) (r.layout.extensions file) file
      (λ e. let n = no_data file e in (s.fits.extensions file ∙ ap extension_count n.0, r.fits.extensions file ∙ ap extension_count n.1))
      (λ a b bytes. extensions_same image t u s r file a b bytes bytes)

  pages_same : s.layout.pages ≡ r.layout.pages
  pages_same =
      let same = root_same image t u s r in
      let lengths : length s.layout.pages ≡ length r.layout.pages = s.fits.pages ∙ ap page_count (blocks_same image t u s r) ∙ sym r.fits.pages in
      ext_get_or 0 s.layout.pages r.layout.pages lengths
      (λ i l. sym (s.root_fields.pages i l) ∙ ap (λ (block : ℕ). long image block (79 + i)) same ∙ r.root_fields.pages i (omega (arith, l, lengths)))

  -- a use in one layout, other than lost, is a use in the other
  duty_follows : (block : ℕ) (duty : Duty) → HasDuty u r.layout block duty → (duty ≡ Duty.Lost) ⊎ HasDuty t s.layout block duty
  duty_follows block (Duty.Page i) h = inr (ap (λ (pages : List ℕ). slice_get pages i) pages_same ∙ h)
  duty_follows block Duty.Key h = inr (subst IsSome (sym (nodes_same image t u s r block)) h)
  duty_follows block (Duty.Data file i) h = inr (ap (λ (blocks : List ℕ). slice_get blocks i) (all_data_same file) ∙ h)
  duty_follows block (Duty.Extension file i) h = inr (ap (λ (blocks : List ℕ). slice_get blocks i) (all_extensions_same file) ∙ h)
  duty_follows block Duty.Lost h = inl refl

  -- no block is lost in only one tree
  not_lost_alone : (block : ℕ) (bytes : List ℕ) → t.lost block ≡ Some bytes → u.lost block ≡ None → ⊥
  not_lost_alone block bytes e f =
      let serves : HasDuty t s.layout block Duty.Lost = rw e refl in
      let inside = s.fits.inside block Duty.Lost serves in
      let inside_u : IsInside u.blocks block = omega (arith, inside.0, inside.1, blocks_same image t u s r) in
      let used = r.marked_used block inside_u (λ m. s.marked_free block inside m (Duty.Lost, serves)) in
      go serves used.0 used.1 (duty_follows block used.0 used.1)
    where
      gone : HasDuty u r.layout block Duty.Lost → ⊥
      gone h = false≢true (sym (ap is_some f) ∙ h)

      go : HasDuty t s.layout block Duty.Lost → (duty : Duty) → HasDuty u r.layout block duty → (duty ≡ Duty.Lost) ⊎ HasDuty t s.layout block duty → ⊥
      go serves duty h (inr k) =
          let same = s.fits.one_duty block duty Duty.Lost k serves in
          gone (subst (λ (d : Duty). HasDuty u r.layout block d) same h)
      go serves duty h (inl z) = gone (subst (λ (d : Duty). HasDuty u r.layout block d) z h)

lost_same : (image : List ℕ) (t u : Tree) (s : Stands image t) (r : Stands image u) (block : ℕ) → t.lost block ≡ u.lost block
lost_same image t u s r block = go (t.lost block) (u.lost block) refl refl
  where
    go : (o p : Option (List ℕ)) → t.lost block ≡ o → u.lost block ≡ p → t.lost block ≡ u.lost block
    go (Some x) (Some y) e f = e ∙ ap Some (sym (s.lost block x e) ∙ r.lost block y f) ∙ sym f
    go (Some x) None e f = absurd (not_lost_alone image t u s r block x e f)
    go None (Some y) e f = absurd (not_lost_alone image u t r s block y f e)
    go None None e f = e ∙ sym f

pub one_tree : OneTree
one_tree image t u s r =
    let blocks = blocks_same image t u s r in
    let format = format_same image t u s r in
    let root_is = root_same image t u s r in
    let disk : t.disk_date ≡ u.disk_date = sym s.root_fields.disk_date ∙ ap (λ (block : ℕ). date_at image block 118) root_is ∙ r.root_fields.disk_date in
    let creation : t.creation_date ≡ u.creation_date = sym s.root_fields.creation_date ∙ ap (λ (block : ℕ). date_at image block 121) root_is ∙ r.root_fields.creation_date in
    λ i. record {
      blocks = blocks i;
      format = format i;
      disk_date = disk i;
      creation_date = creation i;
      nodes = λ key. nodes_same image t u s r key i;
      lost = λ block. lost_same image t u s r block i;
    }
