-- An image that represents a tree has lawful bitmap blocks, and each of its files can be changed.
use Rattle.ados_change.proofs.Common.{◌≡◌, ◌≢◌, ℕ, zero, suc, ◌<◌, ◌≤◌, ◌==◌, true, false, List, ◌∷◌, length, slice_index, Some, refl, sym, ap, ◌∙◌, subst, arith, eq-eqb, ne_eqb, false_from_ne_true, Format, Ofs, Ffs, IsInside, block_count, byte_at, root_key, has_free_bit, format_of, byte-bytes_at, LawfulPages, page_block, pages_of, data_count, Node, Tree, size_of, HasFile, Duty, HasDuty, Stands, format_byte, IsLawful, AreApart, data_blocks, extension_blocks, contents, IsInUse, LawfulMap, WritableFile, data_blocks_are, extension_blocks_are, contents_are, File, count_same, root_is, slice_get-index, []}
use Rattle.ados_change.proofs.Contents.{file_not_root}
use Rattle.ados_change.proofs.Lawful.{lawful_pages as lawful_by, page_serves as page_named}
use Rattle.ados_change.proofs.Loose.{proper_is_loose, spells}

module _ (image : List ℕ) (t : Tree) (s : Stands image t) where
  pub inside : (block : ℕ) (duty : Duty) → HasDuty t s.layout block duty → IsInside (block_count image) block
  inside block duty h = let i = s.fits.inside block duty h in (i.0, omega (arith, i.1, count_same image t s))

  pub key_serves : (key : ℕ) (node : Node) → t.nodes key ≡ Some node → HasDuty t s.layout key Duty.Key
  key_serves key node e = rw e refl

  pub root_serves : HasDuty t s.layout (root_key (block_count image)) Duty.Key
  root_serves = key_serves _ s.proper.root_node.0 (ap t.nodes (root_is image t s) ∙ s.proper.root_node.1)

  -- a block with a use is not marked free
  pub named_used : (block : ℕ) (duty : Duty) → HasDuty t s.layout block duty → has_free_bit image block ≡ false
  named_used block duty h = false_from_ne_true (has_free_bit image block) (λ e. s.marked_free block (s.fits.inside block duty h) e (duty, h))

  -- ---- bitmap blocks

  pub page_serves : (p : ℕ) → p < pages_of image → HasDuty t s.layout (page_block image p) (Duty.Page p)
  page_serves = page_named image t s.layout 0 (spells image t s) (proper_is_loose t s.proper)

  -- a block with another use is no bitmap block
  pub beside_pages : (block : ℕ) (duty : Duty) → HasDuty t s.layout block duty → ((p : ℕ) → duty ≢ Duty.Page p) → (p : ℕ) → p < pages_of image → block ≢ page_block image p
  beside_pages block duty h other p l e =
      other p (s.fits.one_duty block duty (Duty.Page p) h (page_serves p l ∙ ap Some (sym e)))

  pub lawful_pages : LawfulPages image
  lawful_pages = lawful_by image t s.layout 0 (spells image t s) (proper_is_loose t s.proper)

  pub lawful_map : LawfulMap image
  lawful_map = record {
    pages = lawful_pages;
    root_marked = named_used _ Duty.Key root_serves;
    pages_marked = λ p l. named_used _ (Duty.Page p) (page_serves p l);
  }

  -- ---- files

  pub format_is : format_of image ≡ t.format
  format_is =
      let fourth : byte_at image 0 3 ≡ format_byte t.format = sym (byte-bytes_at image 0 0 4 3 (omega arith)) ∙ ap (λ (xs : List ℕ). slice_index xs 3) s.boot in
      go t.format fourth
    where
      go : (f : Format) → byte_at image 0 3 ≡ format_byte f → format_of image ≡ f
      go Ofs e = let is : (byte_at image 0 3 == 0) ≡ true = eq-eqb (byte_at image 0 3) 0 e in rw is refl
      go Ffs e = let is : (byte_at image 0 3 == 0) ≡ false = ne_eqb (byte_at image 0 3) 0 (omega (arith, e)) in rw is refl

  module _ (file : ℕ) (node : Node) (bytes : List ℕ) (e : t.nodes file ≡ Some node) (c : node.content ≡ File bytes) where
    header_duty : ℕ → Duty
    header_duty zero = Duty.Key
    header_duty (suc q) = Duty.Extension file q

    header_serves : (q : ℕ) → q ≤ length (s.layout.extensions file) → HasDuty t s.layout (slice_index (file ∷ s.layout.extensions file) q) (header_duty q)
    unfolding header_duty
    header_serves zero l = key_serves file node e
    header_serves (suc q) l = slice_get-index (s.layout.extensions file) q (omega (arith, l))

    block_serves : (i : ℕ) → i < length (s.layout.file_data file) → HasDuty t s.layout (slice_index (s.layout.file_data file) i) (Duty.Data file i)
    block_serves i l = slice_get-index (s.layout.file_data file) i l

    duties_apart : (p q : ℕ) → p < q → header_duty p ≢ header_duty q
    unfolding header_duty
    duties_apart p zero l e = omega (arith, l)
    duties_apart zero (suc q) l e = cc e
    duties_apart (suc p) (suc q) l e = let same : p ≡ q = cc e in omega (arith, same, l)

    data_apart : (q i : ℕ) → header_duty q ≢ Duty.Data file i
    unfolding header_duty
    data_apart zero i e = cc e
    data_apart (suc q) i e = cc e

    header_no_page : (q p : ℕ) → header_duty q ≢ Duty.Page p
    unfolding header_duty
    header_no_page zero p e = cc e
    header_no_page (suc q) p e = cc e

    blocks_apart : AreApart (block_count image) file (s.layout.file_data file) (s.layout.extensions file)
    blocks_apart = record {
      headers_inside = λ q l. inside _ (header_duty q) (header_serves q l);
      data_inside = λ i l. inside _ (Duty.Data file i) (block_serves i l);
      headers_once = λ p q l m same. duties_apart p q l (s.fits.one_duty _ (header_duty p) (header_duty q) (header_serves p (omega (arith, l, m))) (subst (λ (b : ℕ). HasDuty t s.layout b (header_duty q)) (sym same) (header_serves q m)));
      data_once = λ i j l m same.
          let duty = s.fits.one_duty _ (Duty.Data file i) (Duty.Data file j) (block_serves i (omega (arith, l, m))) (subst (λ (b : ℕ). HasDuty t s.layout b (Duty.Data file j)) (sym same) (block_serves j m)) in
          let places : i ≡ j = cc duty in omega (arith, places, l);
      apart = λ q i l m same. data_apart q i (s.fits.one_duty _ (header_duty q) (Duty.Data file i) (header_serves q l) (subst (λ (b : ℕ). HasDuty t s.layout b (Duty.Data file i)) (sym same) (block_serves i m)));
    }

    pub is_lawful : IsLawful image file (s.layout.file_data file) (s.layout.extensions file) bytes
    is_lawful =
        let size_is : size_of t file ≡ length bytes = rw e (rw c refl) in
        record {
          holds = subst (λ (f : Format). HasFile image f file (s.layout.file_data file) (s.layout.extensions file) bytes) (sym format_is) (s.files file node bytes e c);
          data_fits = s.fits.file_data file ∙ ap (data_count t.format) size_is ∙ ap (λ (f : Format). data_count f (length bytes)) (sym format_is);
          extensions_fit = s.fits.extensions file;
          places = blocks_apart;
        }

    -- the lists of the layout are the lists in the image
    pub data_is : data_blocks image file ≡ s.layout.file_data file
    data_is = data_blocks_are image file (s.layout.file_data file) (s.layout.extensions file) bytes is_lawful

    pub extensions_is : extension_blocks image file ≡ s.layout.extensions file
    extensions_is = extension_blocks_are image file (s.layout.file_data file) (s.layout.extensions file) bytes is_lawful

    pub bytes_is : contents image file ≡ bytes
    bytes_is = contents_are image file (s.layout.file_data file) (s.layout.extensions file) bytes is_lawful

    header_used : (q : ℕ) → q ≤ length (s.layout.extensions file) → IsInUse image (slice_index (file ∷ s.layout.extensions file) q)
    header_used q l = record {
      marked = named_used _ (header_duty q) (header_serves q l);
      beside_root = not_root q l;
      beside_pages = beside_pages _ (header_duty q) (header_serves q l) (header_no_page q);
    }
      where
        not_root : (q : ℕ) → q ≤ length (s.layout.extensions file) → slice_index (file ∷ s.layout.extensions file) q ≢ root_key (block_count image)
        not_root zero l same = file_not_root t file node bytes [] e c s.proper (same ∙ root_is image t s)
        not_root (suc q) l same =
            let duty : Duty.Extension file q ≡ Duty.Key = s.fits.one_duty _ (Duty.Extension file q) Duty.Key (slice_get-index (s.layout.extensions file) q (omega (arith, l))) (subst (λ (b : ℕ). HasDuty t s.layout b Duty.Key) (sym same) root_serves) in
            cc duty

    data_used : (i : ℕ) → i < length (s.layout.file_data file) → IsInUse image (slice_index (s.layout.file_data file) i)
    data_used i l = record {
      marked = named_used _ (Duty.Data file i) (block_serves i l);
      beside_root = λ same.
          let duty : Duty.Data file i ≡ Duty.Key = s.fits.one_duty _ (Duty.Data file i) Duty.Key (block_serves i l) (subst (λ (b : ℕ). HasDuty t s.layout b Duty.Key) (sym same) root_serves) in
          cc duty;
      beside_pages = beside_pages _ (Duty.Data file i) (block_serves i l) (λ p z. cc z);
    }

    -- each file can be changed
    pub writable : WritableFile image file
    writable = rw (data_is, extensions_is, bytes_is) (record { lawful = is_lawful; map = lawful_map; headers_used = header_used; data_used = data_used })
