-- A file is lawful exactly if its pointer blocks and data blocks have the right fields for their positions and are
-- distinct.
use Rattle.ados_salvage.proofs.KnownCommon.{◌≡◌, ℕ, zero, suc, ◌+◌, ◌-◌, ◌*◌, ◌/◌, ◌%◌, ◌<◌, ◌≤◌, inl, inr, min, List, ◌∷◌, length, slice_index, get_or-append-add, refl, sym, ap, ◌∙◌, subst, arith, length-map-range_with_len, get_or-map-range_with_len, AreApart, AreDifferent, different_few, cases_lt, cases_order, get_or_past, get_or_append_left, length-append, Ofs, block_count, long, IsInside, pointer, pointer_count, file_size, format_of, NEXT_EXTENSION, NEXT_DATA, data_count, extension_count, HasExtension, HasOfsData, file_byte, LawfulFile, pointer_block, data_block, data_blocks, extension_blocks, contents, in_extensions, own_blocks, HasHolders, HasData, AreOnce, data_needed, extensions_needed, data_before}
use Rattle.ados_data.proofs.Chains.{chained, next_of}
use Rattle.ados_data.proofs.Spelled.{link_of}

module _ (image : List ℕ) (file : ℕ) where
  pub length-data : length (data_blocks image file) ≡ data_needed image file
  unfolding data_blocks
  length-data = length-map-range_with_len (data_block image file) 0 (data_needed image file)

  pub data-at : (i : ℕ) → i < data_needed image file → slice_index (data_blocks image file) i ≡ data_block image file i
  unfolding data_blocks
  data-at i l = get_or-map-range_with_len (data_block image file) 0 (data_needed image file) i i 0 l (omega arith)

  pub length-extensions : length (extension_blocks image file) ≡ extensions_needed image file
  unfolding extension_blocks
  length-extensions = length-map-range_with_len (λ q. pointer_block image file (q + 1)) 0 (extensions_needed image file)

  pub extension-at : (q : ℕ) → q < extensions_needed image file → slice_index (extension_blocks image file) q ≡ pointer_block image file (suc q)
  unfolding extension_blocks
  extension-at q l =
      let next : q + 1 ≡ suc q = omega arith in
      get_or-map-range_with_len (λ q. pointer_block image file (q + 1)) 0 (extensions_needed image file) q q 0 l (omega arith)
      ∙ ap (pointer_block image file) next

  pub header-is : (q : ℕ) → q ≤ extensions_needed image file → slice_index (file ∷ extension_blocks image file) q ≡ pointer_block image file q
  header-is zero l = refl
  header-is (suc q) l = extension-at q (omega arith)

  pub length-bytes : length (contents image file) ≡ file_size image file
  unfolding contents
  length-bytes = length-map-range_with_len _ 0 (file_size image file)

  content-at : (k : ℕ) → k < file_size image file → slice_index (contents image file) k ≡ file_byte (format_of image) image (data_blocks image file) k
  unfolding contents
  content-at k l = get_or-map-range_with_len (file_byte (format_of image) image (data_blocks image file)) 0 (file_size image file) k k 0 l (omega arith)

  -- ---- all blocks of the file

  pub length-own : length (own_blocks image file) ≡ suc (extensions_needed image file) + data_needed image file
  length-own = omega (arith, length-append (file ∷ extension_blocks image file) (data_blocks image file), length-extensions, length-data)

  pub own-header : (q : ℕ) → q ≤ extensions_needed image file → slice_index (own_blocks image file) q ≡ slice_index (file ∷ extension_blocks image file) q
  own-header q l = get_or_append_left (file ∷ extension_blocks image file) (data_blocks image file) 0 q (omega (arith, l, length-extensions))

  pub own-data : (i : ℕ) → slice_index (own_blocks image file) (suc (extensions_needed image file) + i) ≡ slice_index (data_blocks image file) i
  own-data i =
      let size : suc (extensions_needed image file) + i ≡ length (file ∷ extension_blocks image file) + i = omega (arith, length-extensions) in
      ap (slice_index (own_blocks image file)) size ∙ get_or-append-add (file ∷ extension_blocks image file) (data_blocks image file) i 0

  module _ (h : HasHolders image file) (d : HasData image file) (once : AreOnce (own_blocks image file)) where
    next-is : (q : ℕ) → q ≤ extensions_needed image file → pointer_block image file (suc q) ≡ slice_index (extension_blocks image file) q
    next-is q l = elim (cases_lt q (extensions_needed image file)) [
      | inl m ↦ sym (extension-at q m)
      | inr m ↦ (let last : q ≡ extensions_needed image file = omega (arith, l, m) in
          ap (λ (k : ℕ). pointer_block image file (suc k)) last ∙ h.ends ∙ sym (get_or_past (extension_blocks image file) q 0 (omega (arith, m, length-extensions))))
    ]

    before-is : (i : ℕ) → i ≤ data_needed image file → slice_index (file ∷ data_blocks image file) i ≡ data_before image file i
    before-is zero l = refl
    before-is (suc i) l = data-at i (omega arith)

    link-is : format_of image ≡ Ofs → (i : ℕ) → i ≤ data_needed image file → long image (slice_index (file ∷ data_blocks image file) i) NEXT_DATA ≡ slice_index (data_blocks image file) i
    link-is ofs i l = ap (λ (b : ℕ). long image b NEXT_DATA) (before-is i l) ∙ elim (cases_lt i (data_needed image file)) [
      | inl m ↦ (d.block i m).linked ofs ∙ sym (data-at i m)
      | inr m ↦ (let last : i ≡ data_needed image file = omega (arith, l, m) in
          ap (λ (k : ℕ). long image (data_before image file k) NEXT_DATA) last ∙ d.ends ofs ∙ sym (get_or_past (data_blocks image file) i 0 (omega (arith, m, length-data))))
    ]

    apart : AreApart (block_count image) file (data_blocks image file) (extension_blocks image file)
    apart = record {
      headers_inside = λ q l.
          let m : q ≤ extensions_needed image file = omega (arith, l, length-extensions) in
          subst (IsInside (block_count image)) (sym (header-is q m)) (h.holder q m).inside;
      data_inside = λ i l.
          let m : i < data_needed image file = omega (arith, l, length-data) in
          subst (IsInside (block_count image)) (sym (data-at i m)) (d.block i m).inside;
      headers_once = λ p q l m e.
          let k : q ≤ extensions_needed image file = omega (arith, m, length-extensions) in
          once p q l (omega (arith, k, length-own)) (own-header p (omega (arith, l, k)) ∙ e ∙ sym (own-header q k));
      data_once = λ i j l m e.
          once (suc (extensions_needed image file) + i) (suc (extensions_needed image file) + j) (omega (arith, l)) (omega (arith, m, length-data, length-own))
          (own-data i ∙ e ∙ sym (own-data j));
      apart = λ q i l m e.
          let k : q ≤ extensions_needed image file = omega (arith, l, length-extensions) in
          once q (suc (extensions_needed image file) + i) (omega (arith, k)) (omega (arith, m, length-data, length-own))
          (own-header q k ∙ e ∙ sym (own-data i));
    }

    pub lawful_file : LawfulFile image file
    lawful_file = record {
      holds = record {
        size = sym length-bytes;
        chain = chained image NEXT_EXTENSION (long image file NEXT_EXTENSION) (extension_blocks image file) (next-is 0 (omega arith))
            (λ i l.
            let below : i < extensions_needed image file = omega (arith, l, length-extensions) in
            ap (λ (b : ℕ). long image b NEXT_EXTENSION) (extension-at i below) ∙ next-is (suc i) (omega arith));
        extension = λ i l.
            let below : i < extensions_needed image file = omega (arith, l, length-extensions) in
            subst (HasExtension image file) (sym (extension-at i below)) ((h.holder (suc i) (omega arith)).fields (omega arith));
        counts = λ i l.
            let below : i ≤ extensions_needed image file = omega (arith, l, length-extensions) in
            ap (pointer_count image) (header-is i below) ∙ (h.holder i below).counted ∙ ap (λ (n : ℕ). min 72 (n - 72 * i)) (sym length-data);
        pointers = λ i l.
            let below : i < data_needed image file = omega (arith, l, length-data) in
            ap (λ (b : ℕ). pointer image b (i % 72)) (header-is (i / 72) (in_extensions i (data_needed image file) below)) ∙ sym (data-at i below);
        contents = λ k l. content-at k (omega (arith, l, length-bytes));
        ofs_chain = λ ofs. chained image NEXT_DATA (long image file NEXT_DATA) (data_blocks image file) (link-is ofs 0 (omega arith))
            (λ i l. link-is ofs (suc i) (omega (arith, l, length-data)));
        ofs_data = λ ofs i l.
            let below : i < data_needed image file = omega (arith, l, length-data) in
            subst (λ (n : ℕ). HasOfsData image file n i (slice_index (data_blocks image file) i)) (sym length-bytes)
            (subst (HasOfsData image file (file_size image file) i) (sym (data-at i below)) ((d.block i below).fields ofs));
      };
      data_fits = length-data ∙ ap (data_count (format_of image)) (sym length-bytes);
      extensions_fit = length-extensions ∙ ap extension_count (sym length-data);
      places = apart;
    }

  module _ (s : LawfulFile image file) where
    pub lawful_holders : HasHolders image file
    lawful_holders = record {
      holder = λ q l.
          let m : q ≤ length (extension_blocks image file) = omega (arith, l, length-extensions) in
          record {
            inside = subst (IsInside (block_count image)) (header-is q l) (s.places.headers_inside q m);
            fields = λ some.
                let before : suc (q - 1) ≡ q = omega (arith, some) in
                subst (HasExtension image file) (extension-at (q - 1) (omega (arith, l, some)) ∙ ap (pointer_block image file) before) (s.holds.extension (q - 1) (omega (arith, m, some)));
            counted = ap (pointer_count image) (sym (header-is q l)) ∙ s.holds.counts q m ∙ ap (λ (n : ℕ). min 72 (n - 72 * q)) length-data;
          };
      ends =
          ap (λ (b : ℕ). long image b NEXT_EXTENSION) (sym (header-is (extensions_needed image file) (omega arith)))
          ∙ link_of image file (data_blocks image file) (extension_blocks image file) (contents image file) s.holds (extensions_needed image file) (omega (arith, length-extensions))
          ∙ get_or_past (extension_blocks image file) (extensions_needed image file) 0 (omega (arith, length-extensions));
    }

    data-before : (i : ℕ) → i ≤ data_needed image file → slice_index (file ∷ data_blocks image file) i ≡ data_before image file i
    data-before zero l = refl
    data-before (suc i) l = data-at i (omega arith)

    data-link : format_of image ≡ Ofs → (i : ℕ) → i ≤ data_needed image file → long image (data_before image file i) NEXT_DATA ≡ slice_index (data_blocks image file) i
    data-link ofs i l =
        ap (λ (b : ℕ). long image b NEXT_DATA) (sym (data-before i l))
        ∙ next_of image NEXT_DATA file (file ∷ data_blocks image file) (refl, s.holds.ofs_chain ofs) i (omega (arith, l, length-data))

    pub lawful_data_blocks : HasData image file
    lawful_data_blocks = record {
      block = λ i l.
          let m : i < length (data_blocks image file) = omega (arith, l, length-data) in
          record {
            inside = subst (IsInside (block_count image)) (data-at i l) (s.places.data_inside i m);
            fields = λ ofs. subst (HasOfsData image file (file_size image file) i) (data-at i l)
                (subst (λ (n : ℕ). HasOfsData image file n i (slice_index (data_blocks image file) i)) length-bytes (s.holds.ofs_data ofs i m));
            linked = λ ofs. data-link ofs i (omega arith) ∙ data-at i l;
          };
      ends = λ ofs. data-link ofs (data_needed image file) (omega arith) ∙ get_or_past (data_blocks image file) (data_needed image file) 0 (omega (arith, length-data));
    }

    pub lawful_once : AreOnce (own_blocks image file)
    lawful_once i j l m e = elim (cases_lt i (suc (extensions_needed image file))) [
      | inl a ↦ elim (cases_lt j (suc (extensions_needed image file))) [
        | inl b ↦ s.places.headers_once i j l (omega (arith, b, length-extensions)) (sym (own-header i (omega (arith, a))) ∙ e ∙ own-header j (omega (arith, b)))
        | inr b ↦ (let place : suc (extensions_needed image file) + (j - suc (extensions_needed image file)) ≡ j = omega (arith, b) in
            s.places.apart i (j - suc (extensions_needed image file)) (omega (arith, a, length-extensions)) (omega (arith, b, m, length-own, length-data))
            (sym (own-header i (omega (arith, a))) ∙ e ∙ ap (slice_index (own_blocks image file)) (sym place) ∙ own-data (j - suc (extensions_needed image file))))
      ]
      | inr a ↦
          (let first : suc (extensions_needed image file) + (i - suc (extensions_needed image file)) ≡ i = omega (arith, a) in
          let second : suc (extensions_needed image file) + (j - suc (extensions_needed image file)) ≡ j = omega (arith, a, l) in
          s.places.data_once (i - suc (extensions_needed image file)) (j - suc (extensions_needed image file)) (omega (arith, a, l)) (omega (arith, a, l, m, length-own, length-data))
          (sym (own-data (i - suc (extensions_needed image file))) ∙ ap (slice_index (own_blocks image file)) first ∙ e
          ∙ ap (slice_index (own_blocks image file)) (sym second) ∙ own-data (j - suc (extensions_needed image file))))
    ]

    -- a sound file has at most as many data blocks as the image has blocks
    pub lawful_few : data_needed image file ≤ block_count image
    lawful_few =
        let different : AreDifferent (data_blocks image file) = λ i j l m e. elim (cases_order i j) [
          | inl here ↦ here
          | inr (inl below) ↦ absurd (s.places.data_once i j below m e)
          | inr (inr above) ↦ absurd (s.places.data_once j i above l (sym e))
        ] in
        omega (arith, different_few (block_count image) (data_blocks image file) (λ i l. (s.places.data_inside i l).1) different, length-data)
