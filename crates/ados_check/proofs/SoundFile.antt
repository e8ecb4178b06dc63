-- A file is sound if its counts and size are right and, in OFS, the links of its data blocks.
use Rattle.ados_check.proofs.Common.{◌≡◌, ◌≢◌, ne_eqb, ℕ, zero, suc, ◌+◌, ◌-◌, ◌*◌, ◌/◌, ◌%◌, ◌<◌, ◌≤◌, ◌⊎◌, inl, inr, min, List, ◌∷◌, length, map, slice_index, refl, sym, ap, ◌∙◌, subst, arith, range_with_len, cases_lt, get_or_past, length-map-range_with_len, get_or-map-range_with_len, Ofs, Ffs, byte_at, long, pointer, pointer_count, file_size, format_of, NEXT_EXTENSION, data_count, extension_count, HasExtension, HasOfsData, file_byte, pointer_block, data_block, data_blocks, extension_blocks, contents, chained, IsSoundFile, IsReachedFile, HasCounts, IsLinked}
use Rattle.ados_check.proofs.Pointed.{blocks_upto, length-blocks_upto, block-at, same_extensions, counted}
use Rattle.ados_check.proofs.RolePlaces.{length-contents}

pub blocks_are : (image : List ℕ) (file count : ℕ) → count ≡ data_count (format_of image) (file_size image file) → blocks_upto image file count ≡ data_blocks image file
unfolding blocks_upto data_blocks
blocks_are image file count e = ap (λ (n : ℕ). map (data_block image file) (range_with_len 0 n)) e

content-at : (image : List ℕ) (file k : ℕ) → k < file_size image file → slice_index (contents image file) k ≡ file_byte (format_of image) image (data_blocks image file) k
unfolding contents
content-at image file k l = get_or-map-range_with_len (file_byte (format_of image) image (data_blocks image file)) 0 (file_size image file) k k 0 l (omega arith)

module _ (image : List ℕ) (file count : ℕ) (r : IsReachedFile image file) (h : HasCounts image file count) (size : count ≡ data_count (format_of image) (file_size image file)) where
  as_many : extension_count (data_count (format_of image) (file_size image file)) ≡ h.extensions
  as_many =
      let e : extension_count (data_count (format_of image) (file_size image file)) ≡ extension_count count = ap extension_count (sym size) in
      e ∙ go (cases_lt 0 h.extensions)
    where
      go : (0 < h.extensions) ⊎ (h.extensions ≤ 0) → extension_count count ≡ h.extensions
      go (inl l) = let some = h.some l in omega (arith, h.rest, h.few, some)
      go (inr l) = omega (arith, h.rest, h.few, l)

  length-extensions : length (extension_blocks image file) ≡ h.extensions
  unfolding extension_blocks
  length-extensions = length-map-range_with_len _ 0 (extension_count (data_count (format_of image) (file_size image file))) ∙ as_many

  extension-at : (q : ℕ) → q < h.extensions → slice_index (extension_blocks image file) q ≡ pointer_block image file (suc q)
  unfolding extension_blocks
  extension-at q l =
      let next : q + 1 ≡ suc q = omega arith in
      get_or-map-range_with_len (λ q. pointer_block image file (q + 1)) 0 (extension_count (data_count (format_of image) (file_size image file))) q q 0 (omega (arith, l, as_many)) (omega arith)
      ∙ ap (pointer_block image file) next

  header-is : (q : ℕ) → q ≤ h.extensions → slice_index (file ∷ extension_blocks image file) q ≡ pointer_block image file q
  header-is zero l = refl
  header-is (suc q) l = extension-at q (omega arith)

  -- each pointer block is followed by the next one, or by 0
  next-is : (q : ℕ) → q ≤ h.extensions → pointer_block image file (suc q) ≡ slice_index (extension_blocks image file) q
  next-is q l = go (cases_lt q h.extensions)
    where
      go : (q < h.extensions) ⊎ (h.extensions ≤ q) → pointer_block image file (suc q) ≡ slice_index (extension_blocks image file) q
      go (inl m) = sym (extension-at q m)
      go (inr m) =
          let last : q ≡ h.extensions = omega arith in
          ap (λ (k : ℕ). pointer_block image file (suc k)) last ∙ h.ends ∙ sym (get_or_past (extension_blocks image file) q 0 (omega (arith, length-extensions)))

  length-data : length (data_blocks image file) ≡ count
  length-data = ap length (sym (blocks_are image file count size)) ∙ length-blocks_upto image file count

  data-at : (i : ℕ) → i < count → slice_index (data_blocks image file) i ≡ data_block image file i
  data-at i l = ap (λ (xs : List ℕ). slice_index xs i) (sym (blocks_are image file count size)) ∙ block-at image file count i l

  pub sound_file : (format_of image ≡ Ofs → IsLinked image file) → IsSoundFile image file
  sound_file linked = record {
    size = sym (length-contents image file);
    chain = chained image NEXT_EXTENSION (long image file NEXT_EXTENSION) (extension_blocks image file) (next-is 0 (omega arith))
        (λ i l.
        let below : i < h.extensions = omega (arith, l, length-extensions) in
        ap (λ (b : ℕ). long image b NEXT_EXTENSION) (extension-at i below) ∙ next-is (suc i) (omega arith));
    extension = λ i l.
        let below : i < h.extensions = omega (arith, l, length-extensions) in
        subst (HasExtension image file) (sym (extension-at i below)) (r.fields i (omega (arith, below, same_extensions image file count r h)));
    counts = λ i l.
        let below : i ≤ h.extensions = omega (arith, l, length-extensions) in
        ap (pointer_count image) (header-is i below) ∙ counted image file count r h i below ∙ ap (λ (n : ℕ). min 72 (n - 72 * i)) (sym length-data);
    pointers = λ i l.
        let below : i < count = omega (arith, l, length-data) in
        ap (λ (b : ℕ). pointer image b (i % 72)) (header-is (i / 72) (omega (arith, below, h.rest, h.few))) ∙ sym (data-at i below);
    contents = λ k l. content-at image file k (omega (arith, l, length-contents image file));
    ofs_chain = λ ofs. (linked ofs).chain;
    ofs_data = λ ofs i l. subst (λ (n : ℕ). HasOfsData image file n i (slice_index (data_blocks image file) i)) (sym (length-contents image file)) ((linked ofs).fields i l);
  }

pub not_ofs : (image : List ℕ) → byte_at image 0 3 ≢ 0 → format_of image ≢ Ofs
not_ofs image n e =
    let other : format_of image ≡ Ffs = rw (ne_eqb (byte_at image 0 3) 0 n) refl in
    cc (other, e)
