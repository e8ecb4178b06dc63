-- A file that gets an extension block or a data block leaves all other bytes untouched.
use Rattle.ados_data.proofs.Common.{◌≡◌, ℕ, suc, ◌/◌, ◌<◌, ◌≤◌, ◌⊎◌, inl, inr, List, [], ◌∷◌, ◌++◌, length, slice_index, refl, sym, ap, ◌∙◌, subst, arith, ◌≢◌, ◌+◌, ◌-◌, ◌*◌, ◌%◌, length_push, Format, byte_at, long, pointer_count, file_size, format_of, NEXT_EXTENSION, POINTER_COUNT, FIRST_POINTER, FILE_SIZE, NEXT_DATA, SameBut, same_long, same_trans, same_weaken, pages_of, page_of, MapPlace, AtField, AtExtensionFields, AtFields, AtDataFields, IsNewBlock, IsExtended, IsLengthened, IsResized, AtLink, AtEnd, IsPointerField, IsExtensionField, IsBeside, KeepsUnnamed, IsHeaderField, data_end, Ofs, get_or_append_left, get_or_push}
use Rattle.ados_data.proofs.Lists.{head_pushed_before, head_pushed_last}
use Rattle.ados_data.proofs.Standing.{Standing, untaken, header_beside_new, data_beside_new}
use Rattle.ados_data.proofs.Grown.{more_pointers, more_header}
use Rattle.ados_data.proofs.CutKeeping.{behind_fields}

module _ (old mid new : List ℕ) (format : Format) (file : ℕ) (blocks extensions : List ℕ) (size e : ℕ) (s : Standing old format file blocks extensions size) (n : IsNewBlock old e mid) (x : IsExtended mid file (slice_index (file ∷ extensions) (length extensions)) e new) where
  abbrev Extending : ℕ → ℕ → Type 0
  Extending c k = (MapPlace old e c k ⊎ (c ≡ e)) ⊎ (AtExtensionFields e c k ⊎ AtField (slice_index (file ∷ extensions) (length extensions)) NEXT_EXTENSION c k)

  extended_rest : SameBut Extending old new
  extended_rest =
      same_trans Extending old mid new (same_weaken (λ c k. MapPlace old e c k ⊎ (c ≡ e)) Extending old mid (λ c k at. inl at) n.rest)
      (same_weaken (λ c k. AtExtensionFields e c k ⊎ AtField (slice_index (file ∷ extensions) (length extensions)) NEXT_EXTENSION c k) Extending mid new (λ c k at. inr at) x.rest)

  extended_within : page_of e < pages_of old
  extended_within = omega (arith, n.lowest.inside.0, n.lowest.inside.1)

  -- the changes in an old pointer block
  extended_header : (q k : ℕ) → q ≤ length extensions → Extending (slice_index (file ∷ extensions) q) k → (k / 4 ≡ NEXT_EXTENSION) ⊎ (k / 4 ≡ 5)
  extended_header q k l (inl at) = absurd (untaken old e mid n s.size_ok s.map (slice_index (file ∷ extensions) q) k (s.headers_used q l) at)
  extended_header q k l (inr (inl at)) = absurd (header_beside_new old e mid n s.size_ok s.map format file blocks extensions size s q l at.0)
  extended_header q k l (inr (inr at)) = at.1

  extended_data : (i k : ℕ) → i < length blocks → ¬ Extending (slice_index blocks i) k
  extended_data i k l (inl at) = untaken old e mid n s.size_ok s.map (slice_index blocks i) k (s.data_used i l) at
  extended_data i k l (inr (inl at)) = data_beside_new old e mid n s.size_ok s.map format file blocks extensions size s i l at.0
  extended_data i k l (inr (inr at)) = s.places.apart (length extensions) i (omega arith) l (sym at.0)

  beside_extension : (c k : ℕ) → IsBeside old file blocks (extensions ++ e ∷ []) c → ¬ Extending c k
  beside_extension c k o (inl (inl at)) = o.beside_pages (page_of e) extended_within at.0
  beside_extension c k o (inl (inr z)) = o.beside_headers (suc (length extensions)) (omega (arith, length_push extensions e)) (z ∙ sym (head_pushed_last file extensions e (suc (length extensions)) refl))
  beside_extension c k o (inr (inl at)) = o.beside_headers (suc (length extensions)) (omega (arith, length_push extensions e)) (at.0 ∙ sym (head_pushed_last file extensions e (suc (length extensions)) refl))
  beside_extension c k o (inr (inr at)) = o.beside_headers (length extensions) (omega (arith, length_push extensions e)) (at.0 ∙ sym (head_pushed_before file extensions e (length extensions) (omega arith)))

  pointer_field : (count j : ℕ) → (j ≡ NEXT_EXTENSION) ⊎ (j ≡ 5) → IsPointerField count j
  pointer_field count j z = grind arith

  -- the changes in the new one, which was empty
  extended_new : (k : ℕ) → (AtExtensionFields e e k ⊎ AtField (slice_index (file ∷ extensions) (length extensions)) NEXT_EXTENSION e k) → IsExtensionField (pointer_count new e) (k / 4)
  extended_new k (inl (at, z)) = grind arith
  extended_new k (inr (at, z)) = inl (pointer_field (pointer_count new e) (k / 4) z)

  no_first : (k : ℕ) → k / 4 ≡ 4 → ¬ Extending file k
  no_first k z at = elim (extended_header 0 k (omega arith) at) [ inl w ↦ omega (arith, z, w) | inr w ↦ omega (arith, z, w) ]

  pub first_extended : long new file 4 ≡ long old file 4
  first_extended = same_long Extending old new extended_rest file 4 (omega arith) no_first

  pub keeps_extended : KeepsUnnamed old file blocks extensions new blocks (extensions ++ e ∷ [])
  keeps_extended = record {
    others = λ c k l o. extended_rest.same_byte c k l (beside_extension c k o);
    header = λ k l f. extended_rest.same_byte file k l (λ at. f (inl (pointer_field (pointer_count new file) (k / 4) (extended_header 0 k (omega arith) at))));
    extension = λ q k l m r f.
        let here : slice_index (extensions ++ e ∷ []) q ≡ slice_index extensions q = get_or_append_left extensions (e ∷ []) 0 q l in
        extended_rest.same_byte (slice_index (extensions ++ e ∷ []) q) k r (λ at. f (pointer_field (pointer_count new (slice_index (extensions ++ e ∷ []) q)) (k / 4) (extended_header (suc q) k (omega arith) (subst (λ (c : ℕ). Extending c k) here at))));
    slack = λ i k l m r d. extended_rest.same_byte (slice_index blocks i) k r (extended_data i k l);
    new_extension = λ q k l m r f.
        let here : slice_index (extensions ++ e ∷ []) q ≡ e = get_or_push extensions e 0 q (omega (arith, l, m, length_push extensions e)) in
        ap (λ (c : ℕ). byte_at new c k) here
        ∙ x.rest.same_byte e k r (λ at. subst (λ (c : ℕ). ¬ IsExtensionField (pointer_count new c) (k / 4)) here f (extended_new k at))
        ∙ n.empty k r;
    new_data = λ i k l m r d. absurd (omega (arith, l, m));
    first_taken = λ z l. absurd (omega (arith, z, l));
    first_given = λ l z. absurd (omega (arith, z, l));
    first_kept = λ w. first_extended;
  }

module _ (i1 i2 i3 i4 : List ℕ) (format : Format) (file : ℕ) (blocks extensions : List ℕ) (size b size' : ℕ) (s : Standing i1 format file blocks extensions size) (n : IsNewBlock i1 b i2)
    (x : IsLengthened i2 format file (slice_index (file ∷ extensions) (length extensions)) (slice_index blocks (length blocks - 1)) (length blocks) b i3) (y : IsResized i3 format file (slice_index (file ∷ extensions) (length extensions)) b (length blocks + 1) size' i4)
    (least : 72 * length extensions ≤ length blocks) (room : length blocks < 72 * suc (length extensions)) where
  abbrev Set : ℕ → ℕ → Type 0
  Set c k = (AtDataFields format b c k ⊎ (AtLink format (length blocks) (slice_index blocks (length blocks - 1)) c k ⊎ (AtFields (slice_index (file ∷ extensions) (length extensions)) (FIRST_POINTER - length blocks % 72) 2 c k ⊎ AtField file 4 c k)))
      ⊎ (AtEnd format (length blocks + 1) b c k ⊎ (AtFields (slice_index (file ∷ extensions) (length extensions)) POINTER_COUNT NEXT_EXTENSION c k ⊎ AtFields file NEXT_DATA FILE_SIZE c k))

  abbrev Changed : ℕ → ℕ → Type 0
  Changed c k = (MapPlace i1 b c k ⊎ (c ≡ b)) ⊎ Set c k

  set_rest : SameBut Set i2 i4
  set_rest =
      same_trans Set i2 i3 i4 (same_weaken (λ c k. AtDataFields format b c k ⊎ (AtLink format (length blocks) (slice_index blocks (length blocks - 1)) c k ⊎ (AtFields (slice_index (file ∷ extensions) (length extensions)) (FIRST_POINTER - length blocks % 72) 2 c k ⊎ AtField file 4 c k))) Set i2 i3 (λ c k at. inl at) x.rest)
      (same_weaken (λ c k. AtEnd format (length blocks + 1) b c k ⊎ (AtFields (slice_index (file ∷ extensions) (length extensions)) POINTER_COUNT NEXT_EXTENSION c k ⊎ AtFields file NEXT_DATA FILE_SIZE c k)) Set i3 i4 (λ c k at. inr at) y.rest)

  rest : SameBut Changed i1 i4
  rest = same_trans Changed i1 i2 i4 (same_weaken (λ c k. MapPlace i1 b c k ⊎ (c ≡ b)) Changed i1 i2 (λ c k at. inl at) n.rest) (same_weaken Set Changed i2 i4 (λ c k at. inr at) set_rest)

  within : page_of b < pages_of i1
  within = omega (arith, n.lowest.inside.0, n.lowest.inside.1)

  beside_header : (q : ℕ) → q ≤ length extensions → slice_index (file ∷ extensions) q ≢ b
  beside_header = header_beside_new i1 b i2 n s.size_ok s.map format file blocks extensions size s

  beside_data : (i : ℕ) → i < length blocks → slice_index blocks i ≢ b
  beside_data = data_beside_new i1 b i2 n s.size_ok s.map format file blocks extensions size s

  -- the changes in a pointer block, without those in the header only
  in_header : (q k : ℕ) → q ≤ length extensions → Changed (slice_index (file ∷ extensions) q) k → IsPointerField (pointer_count i4 (slice_index (file ∷ extensions) q)) (k / 4) ⊎ ((slice_index (file ∷ extensions) q ≡ file) × ((k / 4 ≡ 4) ⊎ (k / 4 ≡ FILE_SIZE)))
  in_header q k l (inl at) = absurd (untaken i1 b i2 n s.size_ok s.map (slice_index (file ∷ extensions) q) k (s.headers_used q l) at)
  in_header q k l (inr (inl (inl at))) = absurd (beside_header q l at.1)
  in_header q k l (inr (inl (inr (inl at)))) = absurd (s.places.apart q (length blocks - 1) l (omega (arith, at.1)) at.2.0)
  in_header q k l (inr (inl (inr (inr (inl (at, inl z)))))) = inl (inr (inr (inl (omega (arith, z, y.counted, ap (pointer_count i4) at, least, room), omega (arith, z)))))
  in_header q k l (inr (inl (inr (inr (inl (at, inr z)))))) = grind arith
  in_header q k l (inr (inl (inr (inr (inr (at, z)))))) = grind arith
  in_header q k l (inr (inr (inl at))) = absurd (beside_header q l at.2.0)
  in_header q k l (inr (inr (inr (inl (at, z))))) = grind arith
  in_header q k l (inr (inr (inr (inr (at, z))))) = grind arith

  -- only the header of an old OFS data block changes
  in_data : (i k : ℕ) → i < length blocks → Changed (slice_index blocks i) k → (format ≡ Ofs) × (k < 24)
  in_data i k l (inl at) = absurd (untaken i1 b i2 n s.size_ok s.map (slice_index blocks i) k (s.data_used i l) at)
  in_data i k l (inr (inl (inl at))) = absurd (beside_data i l at.1)
  in_data i k l (inr (inl (inr (inl (f, c, (at, z)))))) = (f, omega (arith, z))
  in_data i k l (inr (inl (inr (inr (inl at))))) = absurd (s.places.apart (length extensions) i (omega arith) l (sym at.0))
  in_data i k l (inr (inl (inr (inr (inr at))))) = absurd (s.places.apart 0 i (omega arith) l (sym at.0))
  in_data i k l (inr (inr (inl at))) = absurd (beside_data i l at.2.0)
  in_data i k l (inr (inr (inr (inl at)))) = absurd (s.places.apart (length extensions) i (omega arith) l (sym at.0))
  in_data i k l (inr (inr (inr (inr at)))) = absurd (s.places.apart 0 i (omega arith) l (sym at.0))

  -- the changes in the new one, which was empty
  in_new : (k : ℕ) → Set b k → (format ≡ Ofs) × (k < 24)
  in_new k (inl (inl at)) = (at.0, at.2)
  in_new k (inl (inr (inl at))) = absurd (beside_data (length blocks - 1) (omega (arith, at.1)) (sym at.2.0))
  in_new k (inl (inr (inr (inl at)))) = absurd (beside_header (length extensions) (omega arith) (sym at.0))
  in_new k (inl (inr (inr (inr at)))) = absurd (beside_header 0 (omega arith) (sym at.0))
  in_new k (inr (inl (f, c, (at, z)))) = (f, omega (arith, z))
  in_new k (inr (inr (inl at))) = absurd (beside_header (length extensions) (omega arith) (sym at.0))
  in_new k (inr (inr (inr at))) = absurd (beside_header 0 (omega arith) (sym at.0))

  beside_new : (c : ℕ) → IsBeside i1 file (blocks ++ b ∷ []) extensions c → c ≢ b
  beside_new c o z = o.beside_data (length blocks) (omega (arith, length_push blocks b)) (z ∙ sym (get_or_push blocks b 0 (length blocks) refl))

  beside : (c k : ℕ) → IsBeside i1 file (blocks ++ b ∷ []) extensions c → ¬ Changed c k
  beside c k o (inl (inl at)) = o.beside_pages (page_of b) within at.0
  beside c k o (inl (inr z)) = beside_new c o z
  beside c k o (inr (inl (inl at))) = beside_new c o at.1
  beside c k o (inr (inl (inr (inl at)))) = o.beside_data (length blocks - 1) (omega (arith, length_push blocks b)) (at.2.0 ∙ sym (get_or_append_left blocks (b ∷ []) 0 (length blocks - 1) (omega (arith, at.1))))
  beside c k o (inr (inl (inr (inr (inl at))))) = o.beside_headers (length extensions) (omega arith) at.0
  beside c k o (inr (inl (inr (inr (inr at))))) = o.beside_headers 0 (omega arith) at.0
  beside c k o (inr (inr (inl at))) = beside_new c o at.2.0
  beside c k o (inr (inr (inr (inl at)))) = o.beside_headers (length extensions) (omega arith) at.0
  beside c k o (inr (inr (inr (inr at)))) = o.beside_headers 0 (omega arith) at.0

  header_field : (k : ℕ) → Changed file k → IsHeaderField (pointer_count i4 file) (k / 4)
  header_field k at = elim (in_header 0 k (omega arith) at) [ inl z ↦ inl z | inr z ↦ inr z.1 ]

  extension_field : (q k : ℕ) → q < length extensions → Changed (slice_index extensions q) k → IsPointerField (pointer_count i4 (slice_index extensions q)) (k / 4)
  extension_field q k l at = elim (in_header (suc q) k (omega arith) at) [ inl z ↦ z | inr z ↦ absurd (s.places.headers_once 0 (suc q) (omega arith) (omega arith) (sym z.0)) ]

  end_behind : (i k d : ℕ) → data_end (format_of i1) d i ≤ k → ¬ ((format ≡ Ofs) × (k < 24))
  end_behind i k d l at = omega (arith, at.1, behind_fields (format_of i1) d i k (s.format_is ∙ at.0) l)

  first_untaken : long i2 file 4 ≡ long i1 file 4
  first_untaken = same_long (λ c k. MapPlace i1 b c k ⊎ (c ≡ b)) i1 i2 n.rest file 4 (omega arith) (λ k z. untaken i1 b i2 n s.size_ok s.map file k (s.headers_used 0 (omega arith)))

  pub keeps_longer : KeepsUnnamed i1 file blocks extensions i4 (blocks ++ b ∷ []) extensions
  keeps_longer = record {
    others = λ c k l o. rest.same_byte c k l (beside c k o);
    header = λ k l f. rest.same_byte file k l (λ at. f (more_header (pointer_count i4 file) (pointer_count i4 file) (k / 4) (omega arith) (header_field k at)));
    extension = λ q k l m r f. rest.same_byte (slice_index extensions q) k r (λ at. f (more_pointers (pointer_count i4 (slice_index extensions q)) (pointer_count i4 (slice_index extensions q)) (k / 4) (omega arith) (extension_field q k l at)));
    slack = λ i k l m r d.
        let here : slice_index (blocks ++ b ∷ []) i ≡ slice_index blocks i = get_or_append_left blocks (b ∷ []) 0 i l in
        rest.same_byte (slice_index (blocks ++ b ∷ []) i) k r (λ at. end_behind i k (file_size i4 file) d (in_data i k l (subst (λ (c : ℕ). Changed c k) here at)));
    new_extension = λ q k l m r f. absurd (omega (arith, l, m));
    new_data = λ i k l m r d.
        let here : slice_index (blocks ++ b ∷ []) i ≡ b = get_or_push blocks b 0 i (omega (arith, l, m, length_push blocks b)) in
        ap (λ (c : ℕ). byte_at i4 c k) here ∙ set_rest.same_byte b k r (λ at. end_behind i k (long i4 file FILE_SIZE) d (in_new k at)) ∙ n.empty k r;
    first_taken = λ z l. y.first (omega arith) ∙ x.new_first z ∙ sym (get_or_push blocks b 0 0 z);
    first_given = λ l z. absurd (omega (arith, z, length_push blocks b));
    first_kept = λ e. elim e [
      | inl z ↦ absurd (omega (arith, z.1, length_push blocks b))
      | inr l ↦ y.first (omega arith) ∙ x.first l.0 ∙ first_untaken
    ];
  }
