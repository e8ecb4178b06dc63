-- The number of blocks marked free is the number of blocks that the tree does not use.
use Rattle.ados_model.proofs.Common.{◌≡◌, ◌≢◌, ℕ, suc, ◌+◌, ◌-◌, ◌<◌, Bool, true, false, cond, List, length, slice_index, slice_get, Option, Some, None, is_some, option_map, refl, sym, ap, ◌∙◌, arith, false≢true, slice_get_within, get_or_from_slice_get, Format, Ofs, Ffs, IsInside, has_free_bit, block_count, total, Content, Node, Tree, content_at, size_of, cost_in, used, free, data_count, extension_count, size_in, Directory, File, Duty, HasDuty, Named, Stands, FreeBitsCount, total-same}
use Rattle.ados_model.proofs.Standing.{slice_get-index}
use Rattle.ados_model.proofs.Totals.{total-add, total-zero, total-ones, total-one, total-swap, total-from_two, occurrences, occurrences-none, occurrences-one, total-occurrences}

pub slice_get-back : (xs : List ℕ) (i b : ℕ) → slice_get xs i ≡ Some b → (i < length xs) × (slice_index xs i ≡ b)
slice_get-back xs i b e = (slice_get_within xs i b e, get_or_from_slice_get xs i b 0 e)

pub no_data : (format : Format) → data_count format 0 ≡ 0
no_data Ofs = refl
no_data Ffs = refl

not_counted : (c : Bool) → ¬ (c ≡ true) → ◌≡◌ {A = ℕ} (cond c 1 0) 0
not_counted true n = absurd (n refl)
not_counted false n = refl

module _ (image : List ℕ) (t : Tree) (s : Stands image t) where
  -- how often a block is used in each way
  abbrev as_key : ℕ → ℕ
  as_key b = cond (is_some (t.nodes b)) 1 0

  abbrev as_page : ℕ → ℕ
  as_page b = occurrences b s.layout.pages

  abbrev as_data : ℕ → ℕ
  as_data b = total (λ file. occurrences b (s.layout.file_data file)) t.blocks

  abbrev as_extension : ℕ → ℕ
  as_extension b = total (λ file. occurrences b (s.layout.extensions file)) t.blocks

  abbrev as_lost : ℕ → ℕ
  as_lost b = cond (is_some (t.lost b)) 1 0

  abbrev times_named : ℕ → ℕ
  times_named b = as_key b + (as_page b + (as_data b + (as_extension b + as_lost b)))

  key_none : (b : ℕ) → ¬ HasDuty t s.layout b Duty.Key → as_key b ≡ 0
  key_none b n = not_counted (is_some (t.nodes b)) n

  lost_none : (b : ℕ) → ¬ HasDuty t s.layout b Duty.Lost → as_lost b ≡ 0
  lost_none b n = not_counted (is_some (t.lost b)) n

  page_none : (b : ℕ) → ((i : ℕ) → ¬ HasDuty t s.layout b (Duty.Page i)) → as_page b ≡ 0
  page_none b n = occurrences-none b s.layout.pages (λ i l e. n i (slice_get-index s.layout.pages i l ∙ ap Some e))

  data_none : (b file : ℕ) → ((i : ℕ) → ¬ HasDuty t s.layout b (Duty.Data file i)) → occurrences b (s.layout.file_data file) ≡ 0
  data_none b file n = occurrences-none b (s.layout.file_data file) (λ i l e. n i (slice_get-index (s.layout.file_data file) i l ∙ ap Some e))

  extension_none : (b file : ℕ) → ((i : ℕ) → ¬ HasDuty t s.layout b (Duty.Extension file i)) → occurrences b (s.layout.extensions file) ≡ 0
  extension_none b file n = occurrences-none b (s.layout.extensions file) (λ i l e. n i (slice_get-index (s.layout.extensions file) i l ∙ ap Some e))

  -- a file with a data block has a key in the volume
  file_inside : (file : ℕ) → 0 < length (s.layout.file_data file) → file < t.blocks
  file_inside file l = go (t.nodes file) refl
    where
      go : (o : Option Node) → t.nodes file ≡ o → file < t.blocks
      go None e =
          let size : size_of t file ≡ 0 = rw e refl in
          absurd (omega (arith, l, s.fits.file_data file, ap (data_count t.format) size, no_data t.format))
      go (Some a) e = (s.proper.inside file a e).1

  module _ (b : ℕ) where
    -- a block with one use has no other
    others : (duty other : Duty) → HasDuty t s.layout b duty → duty ≢ other → ¬ HasDuty t s.layout b other
    others duty other m n k = n (s.fits.one_duty b duty other m k)

    once : (duty : Duty) → HasDuty t s.layout b duty → times_named b ≡ 1
    once (Duty.Page i) m =
        let here = slice_get-back s.layout.pages i b m in
        let one : as_page b ≡ 1 = occurrences-one b s.layout.pages i here.0 here.1 (λ j l e.
        let same = s.fits.one_duty b (Duty.Page j) (Duty.Page i) (slice_get-index s.layout.pages j l ∙ ap Some e) m in cc same) in
        let k = key_none b (others (Duty.Page i) Duty.Key m (λ z. cc z)) in
        let d : as_data b ≡ 0 = total-zero _ t.blocks (λ file l. data_none b file (λ j. others (Duty.Page i) (Duty.Data file j) m (λ z. cc z))) in
        let x : as_extension b ≡ 0 = total-zero _ t.blocks (λ file l. extension_none b file (λ j. others (Duty.Page i) (Duty.Extension file j) m (λ z. cc z))) in
        let g = lost_none b (others (Duty.Page i) Duty.Lost m (λ z. cc z)) in
        omega (arith, one, k, d, x, g)
    once Duty.Key m =
        let one : as_key b ≡ 1 = rw m refl in
        let p = page_none b (λ j. others Duty.Key (Duty.Page j) m (λ z. cc z)) in
        let d : as_data b ≡ 0 = total-zero _ t.blocks (λ file l. data_none b file (λ j. others Duty.Key (Duty.Data file j) m (λ z. cc z))) in
        let x : as_extension b ≡ 0 = total-zero _ t.blocks (λ file l. extension_none b file (λ j. others Duty.Key (Duty.Extension file j) m (λ z. cc z))) in
        let g = lost_none b (others Duty.Key Duty.Lost m (λ z. cc z)) in
        omega (arith, one, p, d, x, g)
    once (Duty.Data file i) m =
        let here = slice_get-back (s.layout.file_data file) i b m in
        let one : occurrences b (s.layout.file_data file) ≡ 1 = occurrences-one b (s.layout.file_data file) i here.0 here.1 (λ j l e.
        let same = s.fits.one_duty b (Duty.Data file j) (Duty.Data file i) (slice_get-index (s.layout.file_data file) j l ∙ ap Some e) m in cc same) in
        let d : as_data b ≡ 1 = total-one (λ f. occurrences b (s.layout.file_data f)) t.blocks file (file_inside file (omega (arith, here.0))) one
        (λ f n. data_none b f (λ j. others (Duty.Data file i) (Duty.Data f j) m (λ z. let q : file ≡ f = cc z in n (sym q)))) in
        let k = key_none b (others (Duty.Data file i) Duty.Key m (λ z. cc z)) in
        let p = page_none b (λ j. others (Duty.Data file i) (Duty.Page j) m (λ z. cc z)) in
        let x : as_extension b ≡ 0 = total-zero _ t.blocks (λ f l. extension_none b f (λ j. others (Duty.Data file i) (Duty.Extension f j) m (λ z. cc z))) in
        let g = lost_none b (others (Duty.Data file i) Duty.Lost m (λ z. cc z)) in
        omega (arith, k, p, d, x, g)
    once (Duty.Extension file i) m =
        let here = slice_get-back (s.layout.extensions file) i b m in
        let one : occurrences b (s.layout.extensions file) ≡ 1 = occurrences-one b (s.layout.extensions file) i here.0 here.1 (λ j l e.
        let same = s.fits.one_duty b (Duty.Extension file j) (Duty.Extension file i) (slice_get-index (s.layout.extensions file) j l ∙ ap Some e) m in cc same) in
        let x : as_extension b ≡ 1 = total-one (λ f. occurrences b (s.layout.extensions f)) t.blocks file (file_inside file (omega (arith, here.0, s.fits.extensions file))) one
        (λ f n. extension_none b f (λ j. others (Duty.Extension file i) (Duty.Extension f j) m (λ z. let q : file ≡ f = cc z in n (sym q)))) in
        let k = key_none b (others (Duty.Extension file i) Duty.Key m (λ z. cc z)) in
        let p = page_none b (λ j. others (Duty.Extension file i) (Duty.Page j) m (λ z. cc z)) in
        let d : as_data b ≡ 0 = total-zero _ t.blocks (λ f l. data_none b f (λ j. others (Duty.Extension file i) (Duty.Data f j) m (λ z. cc z))) in
        let g = lost_none b (others (Duty.Extension file i) Duty.Lost m (λ z. cc z)) in
        omega (arith, k, p, d, x, g)
    once Duty.Lost m =
        let one : as_lost b ≡ 1 = rw m refl in
        let k = key_none b (others Duty.Lost Duty.Key m (λ z. cc z)) in
        let p = page_none b (λ j. others Duty.Lost (Duty.Page j) m (λ z. cc z)) in
        let d : as_data b ≡ 0 = total-zero _ t.blocks (λ file l. data_none b file (λ j. others Duty.Lost (Duty.Data file j) m (λ z. cc z))) in
        let x : as_extension b ≡ 0 = total-zero _ t.blocks (λ file l. extension_none b file (λ j. others Duty.Lost (Duty.Extension file j) m (λ z. cc z))) in
        omega (arith, one, k, p, d, x)

    never : ¬ Named t s.layout b → times_named b ≡ 0
    never n =
        let k = key_none b (λ m. n (Duty.Key, m)) in
        let p = page_none b (λ j m. n (Duty.Page j, m)) in
        let d : as_data b ≡ 0 = total-zero _ t.blocks (λ f l. data_none b f (λ j m. n (Duty.Data f j, m))) in
        let x : as_extension b ≡ 0 = total-zero _ t.blocks (λ f l. extension_none b f (λ j m. n (Duty.Extension f j, m))) in
        let g = lost_none b (λ m. n (Duty.Lost, m)) in
        omega (arith, k, p, d, x, g)

    -- a block of the volume is marked free, or used once
    free_or_named : IsInside t.blocks b → cond (has_free_bit image b) 1 0 + times_named b ≡ 1
    free_or_named i = go (has_free_bit image b) refl
      where
        go : (c : Bool) → has_free_bit image b ≡ c → cond c 1 0 + times_named b ≡ 1
        go true e = omega (arith, never (s.marked_free b i e))
        go false e = let n = s.marked_used b i (λ m. false≢true (sym e ∙ m)) in omega (arith, once n.0 n.1)

  -- the number of blocks of a node
  cost_is : (k : ℕ) → cost_in t.format (content_at t k) ≡ as_key k + (length (s.layout.file_data k) + length (s.layout.extensions k))
  cost_is k = go (t.nodes k) refl (s.fits.file_data k) (s.fits.extensions k)
    where
      go : (o : Option Node) → t.nodes k ≡ o → length (s.layout.file_data k) ≡ data_count t.format (size_in (option_map (λ node. node.content) o)) → length (s.layout.extensions k) ≡ extension_count (length (s.layout.file_data k)) → cost_in t.format (option_map (λ node. node.content) o) ≡ cond (is_some o) 1 0 + (length (s.layout.file_data k) + length (s.layout.extensions k))
      go None e d x = omega (arith, d, x, no_data t.format)
      go (Some a) e d x = by_content a.content d x
        where
          by_content : (c : Content) → length (s.layout.file_data k) ≡ data_count t.format (size_in (Some c)) → length (s.layout.extensions k) ≡ extension_count (length (s.layout.file_data k)) → cost_in t.format (Some c) ≡ 1 + (length (s.layout.file_data k) + length (s.layout.extensions k))
          by_content (Directory keys) d x = omega (arith, d, x, no_data t.format)
          by_content (File bytes) d x = let e = ap extension_count d in omega (arith, d, x, e)

  total_named : total times_named t.blocks ≡ used t
  total_named =
      let n = t.blocks in
      let data_length = λ (k : ℕ). length (s.layout.file_data k) in
      let extension_length = λ (k : ℕ). length (s.layout.extensions k) in
      let pages = total-occurrences t.blocks s.layout.pages (λ i l. (s.fits.inside _ (Duty.Page i) (slice_get-index s.layout.pages i l)).1) in
      let of_data : total as_data t.blocks ≡ total data_length t.blocks =
      total-swap (λ b k. occurrences b (s.layout.file_data k)) t.blocks t.blocks
      ∙ total-same data_length (λ k. total (λ b. occurrences b (s.layout.file_data k)) t.blocks) t.blocks
      (λ k l. total-occurrences t.blocks (s.layout.file_data k) (λ i m. (s.fits.inside _ (Duty.Data k i) (slice_get-index (s.layout.file_data k) i m)).1)) in
      let of_extensions : total as_extension t.blocks ≡ total extension_length t.blocks =
      total-swap (λ b k. occurrences b (s.layout.extensions k)) t.blocks t.blocks
      ∙ total-same extension_length (λ k. total (λ b. occurrences b (s.layout.extensions k)) t.blocks) t.blocks
      (λ k l. total-occurrences t.blocks (s.layout.extensions k) (λ i m. (s.fits.inside _ (Duty.Extension k i) (slice_get-index (s.layout.extensions k) i m)).1)) in
      let cost : total (λ k. cost_in t.format (content_at t k)) t.blocks ≡ total as_key t.blocks + total (λ k. data_length k + extension_length k) t.blocks =
      total-same (λ k. as_key k + (data_length k + extension_length k)) (λ k. cost_in t.format (content_at t k)) t.blocks (λ k l. cost_is k)
      ∙ total-add as_key (λ k. data_length k + extension_length k) t.blocks in
      let lengths = total-add data_length extension_length t.blocks in
      let split_key = total-add as_key (λ b. as_page b + (as_data b + (as_extension b + as_lost b))) t.blocks in
      let split_page = total-add as_page (λ b. as_data b + (as_extension b + as_lost b)) t.blocks in
      let split_data = total-add as_data (λ b. as_extension b + as_lost b) t.blocks in
      let split_extension = total-add as_extension as_lost t.blocks in
      omega (arith, pages, of_data, of_extensions, cost, lengths, split_key, split_page, split_data, split_extension, s.fits.pages)

  boot_unnamed : (b : ℕ) → b < 2 → times_named b ≡ 0
  boot_unnamed b l = never b (λ n. let i = s.fits.inside b n.0 n.1 in omega (arith, i.0, l))

  free_count : total (λ k. cond (has_free_bit image (k + 2)) 1 0) (t.blocks - 2) ≡ free t
  free_count =
      let two : t.blocks ≡ suc (suc (t.blocks - 2)) = omega (arith, s.proper.size.0) in
      let named_total = ap (total times_named) two ∙ total-from_two times_named (t.blocks - 2) in
      let each = total-ones (λ k. cond (has_free_bit image (k + 2)) 1 0 + times_named (k + 2)) (t.blocks - 2) (λ k l. free_or_named (k + 2) (omega arith, omega (arith, l))) in
      let split = total-add (λ k. cond (has_free_bit image (k + 2)) 1 0) (λ k. times_named (k + 2)) (t.blocks - 2) in
      omega (arith, named_total, each, split, total_named, boot_unnamed 0 (omega arith), boot_unnamed 1 (omega arith))

pub free_bits_count : FreeBitsCount
free_bits_count image t s =
    let count : block_count image - 2 ≡ t.blocks - 2 = omega (arith, s.whole) in
    ap (total (λ k. cond (has_free_bit image (k + 2)) 1 0)) count ∙ free_count image t s
