-- The data blocks in a file's pointers, if its counts are right.
use Rattle.ados_check.proofs.Common.{◌≡◌, ℕ, suc, ◌+◌, ◌-◌, ◌*◌, ◌/◌, ◌%◌, ◌<◌, ◌≤◌, ◌⊎◌, inl, inr, min, List, length, take, drop, map, slice_index, sym, ap, ap₂, ◌∙◌, subst, arith, le-leb, range_with_len, cases_lt, ext_get_or, get_or-take, get_or-drop, length-map-range_with_len, get_or-map-range_with_len, long, pointer, pointer_count, NEXT_EXTENSION, pointer_block, data_block, InImage, IsPointer, LinkedOnce, first_pointers, pointers_of, AreDataBlocks, IsReachedFile, HasCounts, length-first_pointers, first_pointers-at, chunks, length-take, length-drop}
use Rattle.ados_check.proofs.Headers.{within, not_zero, headers_upto, length-headers_upto, header-at}

-- ---- the blocks of a file

-- the first data blocks of a file
unfoldable pub blocks_upto : List ℕ → ℕ → ℕ → List ℕ
blocks_upto image file count = map (data_block image file) (range_with_len 0 count)

pub length-blocks_upto : (image : List ℕ) (file count : ℕ) → length (blocks_upto image file count) ≡ count
unfolding blocks_upto
length-blocks_upto image file count = length-map-range_with_len (data_block image file) 0 count

pub block-at : (image : List ℕ) (file count i : ℕ) → i < count → slice_index (blocks_upto image file count) i ≡ data_block image file i
unfolding blocks_upto
block-at image file count i l = get_or-map-range_with_len (data_block image file) 0 count i i 0 l (omega arith)

module _ (image : List ℕ) (file count : ℕ) (r : IsReachedFile image file) (h : HasCounts image file count) where
  pub same_extensions : h.extensions ≡ r.extensions
  same_extensions = go (cases_lt h.extensions r.extensions) (within image file r h.extensions h.goes_on)
    where
      go : (h.extensions < r.extensions) ⊎ (r.extensions ≤ h.extensions) → h.extensions ≤ r.extensions → h.extensions ≡ r.extensions
      go (inl l) m = absurd (not_zero image file r (suc h.extensions) (omega arith) h.ends)
      go (inr l) m = omega arith

  pub counted : (q : ℕ) → q ≤ h.extensions → pointer_count image (pointer_block image file q) ≡ min 72 (count - 72 * q)
  counted q l = go (cases_lt q h.extensions)
    where
      go : (q < h.extensions) ⊎ (h.extensions ≤ q) → pointer_count image (pointer_block image file q) ≡ min 72 (count - 72 * q)
      go (inl m) = omega (arith, h.full q m, h.rest)
      go (inr m) =
          let last : q ≡ h.extensions = omega arith in
          let here : pointer_count image (pointer_block image file q) ≡ pointer_count image (pointer_block image file h.extensions) = ap (λ (k : ℕ). pointer_count image (pointer_block image file k)) last in
          omega (arith, here, h.rest, h.few, last)

  linked : LinkedOnce image NEXT_EXTENSION file (headers_upto image file (suc h.extensions))
  linked =
      let size = length-headers_upto image file (suc h.extensions) in
      record {
        not_empty = omega (arith, size);
        head = header-at image file (suc h.extensions) 0 0 (omega arith);
        linked = λ i l.
            let next : suc i ≡ i + 1 = omega arith in
            ap (λ (b : ℕ). long image b NEXT_EXTENSION) (header-at image file (suc h.extensions) i 0 (omega (arith, l, size)))
            ∙ sym (header-at image file (suc h.extensions) (suc i) 0 (omega (arith, l, size)))
            ∙ ap (slice_index (headers_upto image file (suc h.extensions))) next;
        inside = λ i l. subst (InImage image) (sym (header-at image file (suc h.extensions) (i + 1) 0 (omega (arith, l, size)))) (r.inside (i + 1) (omega (arith, l, size, same_extensions)));
        once = λ i j d l m e.
            r.once i j l (omega (arith, m, size, same_extensions))
            (sym (header-at image file (suc h.extensions) i d (omega (arith, l, m, size))) ∙ e ∙ header-at image file (suc h.extensions) j d (omega (arith, m, size)));
        whole = λ inside.
            let last : length (headers_upto image file (suc h.extensions)) - 1 ≡ h.extensions = omega (arith, size) in
            let link : long image (slice_index (headers_upto image file (suc h.extensions)) (length (headers_upto image file (suc h.extensions)) - 1)) NEXT_EXTENSION ≡ 0 =
            ap (λ (k : ℕ). long image (slice_index (headers_upto image file (suc h.extensions)) k) NEXT_EXTENSION) last
            ∙ ap (λ (b : ℕ). long image b NEXT_EXTENSION) (header-at image file (suc h.extensions) h.extensions 0 (omega arith)) ∙ h.ends in
            absurd (omega (arith, inside.0, link));
      }

  pub part : (q : ℕ) → q ≤ h.extensions → pointers_of image (pointer_block image file q) ≡ take 72 (drop (72 * q) (blocks_upto image file count))
  part q l =
      let count_here = counted q l in
      let few : pointer_count image (pointer_block image file q) ≤ 72 = omega (arith, count_here) in
      let lengths : length (first_pointers image (pointer_block image file q) (pointer_count image (pointer_block image file q))) ≡ length (take 72 (drop (72 * q) (blocks_upto image file count))) =
      length-first_pointers image (pointer_block image file q) (pointer_count image (pointer_block image file q)) ∙ count_here
      ∙ ap (λ (n : ℕ). min 72 (n - 72 * q)) (sym (length-blocks_upto image file count))
      ∙ sym (length-take 72 (drop (72 * q) (blocks_upto image file count)) ∙ ap (min 72) (length-drop (72 * q) (blocks_upto image file count))) in
      let at_each : (i : ℕ) → i < length (first_pointers image (pointer_block image file q) (pointer_count image (pointer_block image file q))) → slice_index (first_pointers image (pointer_block image file q) (pointer_count image (pointer_block image file q))) i ≡ slice_index (take 72 (drop (72 * q) (blocks_upto image file count))) i = λ i m.
      let below : i < pointer_count image (pointer_block image file q) = omega (arith, m, length-first_pointers image (pointer_block image file q) (pointer_count image (pointer_block image file q))) in
      let small : i < 72 = omega (arith, below, few) in
      let inside : 72 * q + i < count = omega (arith, below, count_here) in
      let quotient : (72 * q + i) / 72 ≡ q = omega (arith, small) in
      let remainder : (72 * q + i) % 72 ≡ i = omega (arith, small) in
      first_pointers-at image (pointer_block image file q) (pointer_count image (pointer_block image file q)) i below
      ∙ ap₂ (λ (a b : ℕ). pointer image (pointer_block image file a) b) (sym quotient) (sym remainder)
      ∙ sym (block-at image file count (72 * q + i) inside)
      ∙ sym (get_or-take 72 (drop (72 * q) (blocks_upto image file count)) i 0 small ∙ get_or-drop (72 * q) (blocks_upto image file count) i 0) in
      rw (le-leb (pointer_count image (pointer_block image file q)) 72 few) (ext_get_or 0 _ _ lengths at_each)

  -- the data blocks of the file
  pub are_data_blocks : AreDataBlocks image file (blocks_upto image file count)
  are_data_blocks = record {
    is_file = r.is_file;
    headers = headers_upto image file (suc h.extensions);
    linked = linked;
    pointed = sym (chunks (pointers_of image) (headers_upto image file (suc h.extensions)) (blocks_upto image file count)
        (λ i l. let below : i < suc h.extensions = omega (arith, l, length-headers_upto image file (suc h.extensions)) in
        ap (pointers_of image) (header-at image file (suc h.extensions) i 0 below) ∙ part i (omega arith))
        (omega (arith, length-headers_upto image file (suc h.extensions), length-blocks_upto image file count, h.rest, h.few)));
  }

  pub holder_within : (i : ℕ) → i < count → i / 72 ≤ r.extensions
  holder_within i l = omega (arith, l, h.rest, h.few, same_extensions)

  pub is_pointer : (i : ℕ) → i < count → IsPointer image (pointer_block image file (i / 72)) (i % 72)
  is_pointer i l =
      let here = counted (i / 72) (omega (arith, holder_within i l, same_extensions)) in
      (omega (arith, here, l), omega (arith, here))

  pub data_inside : (i : ℕ) → i < count → InImage image (data_block image file i)
  data_inside i l = r.data_inside (i / 72) (i % 72) (holder_within i l) (is_pointer i l)
