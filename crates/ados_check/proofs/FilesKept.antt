-- A sound file stays sound when only the bitmap changes.
use Rattle.ados_check.proofs.Common.{◌≡◌, ◌≢◌, ℕ, zero, suc, ◌+◌, ◌-◌, ◌/◌, ◌%◌, ◌<◌, ◌≤◌, List, [], ◌∷◌, length, slice_index, Option, Some, refl, sym, ap, ap₂, ◌∙◌, subst, arith, Format, Ofs, Ffs, IsImage, block_count, long, Chained, file_size, format_of, NEXT_EXTENSION, NEXT_DATA, SameBut, data_size, data_start, data_count, HasOfsData, HasFile, file_byte, AreApart, IsLawful, data_blocks, extension_blocks, contents, IsOfBitmap, Mark, mark_at, IsChecked, IsSoundFile, Data, Extension, mark_of}
use Rattle.ados_data.proofs.Spelled.{lawful_file}
use Rattle.ados_check.proofs.Roles.{IsMarkedFile, marked_inside}
use Rattle.ados_check.proofs.RolePlaces.{length-data_blocks, length-extension_blocks, length-contents, sound_file, StandsAt, marked_at, one_place, holder_of, long_of, holder_within, different_headers}
use Rattle.ados_check.proofs.Untouched.{count_same, IsUntouched, untouched, long_kept, byte_kept, sum_kept, format_same, extension_kept}

-- a linked list with unchanged links
chained_moves : (old new : List ℕ) (link first : ℕ) (xs : List ℕ) → ((i : ℕ) → i < length xs → long new (slice_index xs i) link ≡ long old (slice_index xs i) link) → Chained old link first xs → Chained new link first xs
chained_moves old new link first [] kept c = c
chained_moves old new link first (x ∷ xs) kept c =
    (c.0, subst (λ (f : ℕ). Chained new link f xs) (sym (kept 0 (omega arith))) (chained_moves old new link (long old x link) xs (λ i l. kept (suc i) (omega arith)) c.1))

-- a byte of a file is in one of its data blocks
byte_within : (format : Format) (k size : ℕ) → k < size → (k / data_size format < data_count format size) × (data_start format + k % data_size format < 512)
byte_within Ofs k size l = (omega arith, omega arith)
byte_within Ffs k size l = (omega arith, omega arith)

module _ (old new : List ℕ) (marks : List (Option Mark)) (im : IsImage old) (c : IsChecked old marks) (same : SameBut (IsOfBitmap old) old new) (file : ℕ) (f : IsMarkedFile old marks file) where
  abbrev Free : ℕ → Type 0
  Free block = IsUntouched old new marks im c.reached same block

  kept : (block j : ℕ) → Free block → j < 128 → long new block j ≡ long old block j
  kept = long_kept old new marks im c.reached same

  -- ---- the blocks of the file are untouched

  header_free : Free file
  header_free =
      let role = f.role in
      untouched old new marks im c.reached same file f.mark f.marked (λ z. cc (role, z)) (λ z. cc (role, z))

  extension_stands : (q : ℕ) → q < length (extension_blocks old file) → StandsAt old marks im c (Extension file) q (slice_index (extension_blocks old file) q)
  extension_stands q l = record { within = l; here = refl; holder = f }

  data_stands : (i : ℕ) → i < length (data_blocks old file) → StandsAt old marks im c (Data file) i (slice_index (data_blocks old file) i)
  data_stands i l = record { within = l; here = refl; holder = f }

  extension_free : (q : ℕ) → q < length (extension_blocks old file) → Free (slice_index (extension_blocks old file) q)
  extension_free q l = untouched old new marks im c.reached same _ _ (marked_at old marks im c (Extension file) q _ (extension_stands q l)) (λ z. cc z) (λ z. cc z)

  headers_free : (q : ℕ) → q ≤ length (extension_blocks old file) → Free (slice_index (file ∷ extension_blocks old file) q)
  headers_free zero l = header_free
  headers_free (suc q) l = extension_free q (omega arith)

  data_free : (i : ℕ) → i < length (data_blocks old file) → Free (slice_index (data_blocks old file) i)
  data_free i l = untouched old new marks im c.reached same _ _ (marked_at old marks im c (Data file) i _ (data_stands i l)) (λ z. cc z) (λ z. cc z)

  -- ---- so they hold the same file

  h : IsSoundFile old file
  h = sound_file old marks im c file f

  ofs_data_kept : (size i block : ℕ) → Free block → HasOfsData old file size i block → HasOfsData new file size i block
  ofs_data_kept size i block free e = record {
    primary = kept block 0 free (omega arith) ∙ e.primary;
    header = kept block 1 free (omega arith) ∙ e.header;
    sequence = kept block 2 free (omega arith) ∙ e.sequence;
    held = kept block 3 free (omega arith) ∙ e.held;
    sum = sum_kept old new marks im c.reached same block free ∙ e.sum;
  }

  content_kept : (format : Format) (k : ℕ) → length (data_blocks old file) ≡ data_count format (file_size old file) → k < file_size old file → file_byte format new (data_blocks old file) k ≡ file_byte format old (data_blocks old file) k
  content_kept format k count l =
      let within = byte_within format k (file_size old file) l in
      byte_kept old new marks im c.reached same _ (data_start format + k % data_size format) (data_free (k / data_size format) (omega (arith, within.0, count))) within.1

  file_kept : HasFile new (format_of old) file (data_blocks old file) (extension_blocks old file) (contents old file)
  file_kept = record {
    size = kept file 81 header_free (omega arith) ∙ h.size;
    chain = subst (λ (first : ℕ). Chained new NEXT_EXTENSION first (extension_blocks old file)) (sym (kept file 126 header_free (omega arith)))
        (chained_moves old new NEXT_EXTENSION (long old file NEXT_EXTENSION) (extension_blocks old file) (λ i l. kept _ 126 (extension_free i l) (omega arith)) h.chain);
    extension = λ i l. extension_kept old new marks im c.reached same _ file (extension_free i l) (h.extension i l);
    counts = λ i l. kept _ 2 (headers_free i l) (omega arith) ∙ h.counts i l;
    pointers = λ i l. kept _ (77 - i % 72) (headers_free (i / 72) (holder_within old marks im c file i l)) (omega arith) ∙ h.pointers i l;
    contents = λ k l. h.contents k l ∙ sym (content_kept (format_of old) k (length-data_blocks old file) (omega (arith, l, h.size)));
    ofs_chain = λ ofs. subst (λ (first : ℕ). Chained new NEXT_DATA first (data_blocks old file)) (sym (kept file 4 header_free (omega arith)))
        (chained_moves old new NEXT_DATA (long old file NEXT_DATA) (data_blocks old file) (λ i l. kept _ 4 (data_free i l) (omega arith)) (h.ofs_chain ofs));
    ofs_data = λ ofs i l. ofs_data_kept _ i _ (data_free i l) (h.ofs_data ofs i l);
  }

  -- ---- the blocks are distinct

  header_role : (q : ℕ) → q ≤ length (extension_blocks old file) → (m : Mark) × (mark_at marks (slice_index (file ∷ extension_blocks old file) q) ≡ Some m) × (m.role ≢ Data file)
  header_role zero l = let role = f.role in (f.mark, f.marked, λ z. cc (role, z))
  header_role (suc q) l = (_, marked_at old marks im c (Extension file) q _ (extension_stands q (omega arith)), λ z. cc z)

  not_header : (q i : ℕ) → q ≤ length (extension_blocks old file) → (l : i < length (data_blocks old file)) → slice_index (file ∷ extension_blocks old file) q ≢ slice_index (data_blocks old file) i
  not_header q i m l e =
      let header = header_role q m in
      let marked = marked_at old marks im c (Data file) i _ (data_stands i l) in
      let blocks = ap (mark_at marks) e in
      let one : header.0 ≡ mark_of (Data file) (holder_of old marks im c (Data file) i) (long_of old marks im c (Data file) i) = cc (header.1, marked, blocks) in
      header.2 (ap (λ (m : Mark). m.role) one)

  places : AreApart (block_count new) file (data_blocks old file) (extension_blocks old file)
  places =
      let count = count_same old new marks im c.reached same in
      record {
        headers_inside = λ q l. let header = header_role q l in let inside = marked_inside old marks c.reached im _ header.0 header.1 in (inside.0, omega (arith, inside.1, count));
        data_inside = λ i l. let inside = marked_inside old marks c.reached im _ _ (marked_at old marks im c (Data file) i _ (data_stands i l)) in (inside.0, omega (arith, inside.1, count));
        headers_once = λ p q b l e. let at : p ≡ q = different_headers old marks im c file f p q (omega arith) (omega arith) e in omega (arith, at, b);
        data_once = λ i j b l e. let at : i ≡ j = one_place old marks im c (Data file) i j _ (record { within = omega arith; here = e; holder = f }) (data_stands j l) in omega (arith, at, b);
        apart = λ q i l m. not_header q i l m;
      }

  lawful : IsLawful new file (data_blocks old file) (extension_blocks old file) (contents old file)
  lawful =
      let format = format_same old new marks im c.reached same in
      record {
        holds = subst (λ (g : Format). HasFile new g file (data_blocks old file) (extension_blocks old file) (contents old file)) (sym format) file_kept;
        data_fits = length-data_blocks old file ∙ ap₂ (λ (g : Format) (n : ℕ). data_count g n) (sym format) (sym (length-contents old file));
        extensions_fit = length-extension_blocks old file;
        places = places;
      }

  pub sound_file_kept : IsSoundFile new file
  sound_file_kept = (lawful_file new file (data_blocks old file) (extension_blocks old file) (contents old file) lawful).holds
