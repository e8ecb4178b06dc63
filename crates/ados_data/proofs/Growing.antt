-- A file with one more block, or of another size.
use Rattle.ados_data.proofs.Common.{◌≡◌, ◌≢◌, ℕ, zero, suc, ◌-◌, ◌*◌, ◌/◌, ◌%◌, ◌<◌, ◌≤◌, ◌⊎◌, inl, inr, List, [], ◌∷◌, ◌++◌, length, slice_index, sym, ap, ◌∙◌, subst, arith, ◌+◌, take, refl, cases_lt, length_push, length-take-le, FIRST_POINTER, FILE_SIZE, NEXT_EXTENSION, POINTER_COUNT, NEXT_DATA, Format, Ofs, byte_at, long, block_sum, block_count, IsInside, IsSize, same_long, AtField, AtFields, AtExtensionFields, AtDataFields, AreApart, IsInUse, IsExtended, IsLengthened, AtLink, IsResized, AtEnd, extension_count, get_or_append_left, get_or_push, get_or-take}
use Rattle.ados_data.proofs.Lists.{head_pushed_before, head_pushed_last, apart_extended, apart_longer, head_taken, apart_taken}
use Rattle.ados_data.proofs.Skeleton.{KeepsHolder, untouched_holder, untouched_data, skeleton_extended, skeleton_longer, skeleton_resized}
use Rattle.ados_data.proofs.Standing.{Standing, Owned, blocks_stay, format_kept, map_stays, use_stays}

-- ---- an extension block

module _ (old new : List ℕ) (format : Format) (file : ℕ) (blocks extensions : List ℕ) (size e : ℕ) (s : Standing old format file blocks extensions size) (x : IsExtended old file (slice_index (file ∷ extensions) (length extensions)) e new)
    (inside : IsInside (block_count old) e) (used : IsInUse old e) (beside_headers : (q : ℕ) → q ≤ length extensions → slice_index (file ∷ extensions) q ≢ e) (beside_data : (i : ℕ) → i < length blocks → slice_index blocks i ≢ e) where
  extended_owner : (c k : ℕ) → (AtExtensionFields e c k ⊎ AtField (slice_index (file ∷ extensions) (length extensions)) NEXT_EXTENSION c k) → IsInUse old c × IsInside (block_count old) c
  extended_owner c k (inl at) = (subst (IsInUse old) (sym at.0) used, subst (IsInside (block_count old)) (sym at.0) inside)
  extended_owner c k (inr at) = (subst (IsInUse old) (sym at.0) (s.headers_used (length extensions) (omega arith)), subst (IsInside (block_count old)) (sym at.0) (s.places.headers_inside (length extensions) (omega arith)))

  -- a block other than these two
  extended_beside : (c k : ℕ) → c ≢ e → c ≢ slice_index (file ∷ extensions) (length extensions) → ¬ (AtExtensionFields e c k ⊎ AtField (slice_index (file ∷ extensions) (length extensions)) NEXT_EXTENSION c k)
  extended_beside c k a b (inl at) = a at.0
  extended_beside c k a b (inr at) = b at.0

  -- a long other than the link
  extended_other : (c k j : ℕ) → k / 4 ≡ j → c ≢ e → j ≢ NEXT_EXTENSION → j ≢ 5 → ¬ (AtExtensionFields e c k ⊎ AtField (slice_index (file ∷ extensions) (length extensions)) NEXT_EXTENSION c k)
  extended_other c k j m a b d (inl at) = a at.0
  extended_other c k j m a b d (inr (at, z)) = omega (arith, m, z, b, d)

  other_long : (c j : ℕ) → j < 128 → c ≢ e → j ≢ NEXT_EXTENSION → j ≢ 5 → long new c j ≡ long old c j
  other_long c j l a b d = same_long (λ c k. AtExtensionFields e c k ⊎ AtField (slice_index (file ∷ extensions) (length extensions)) NEXT_EXTENSION c k) old new x.rest c j l (λ k m. extended_other c k j m a b d)

  pub extended_owned : Owned (λ c k. AtExtensionFields e c k ⊎ AtField (slice_index (file ∷ extensions) (length extensions)) NEXT_EXTENSION c k) old new
  extended_owned = record { same = x.rest; size = s.size_ok; owner = extended_owner }

  pub stands_extended : length blocks ≡ 72 * suc (length extensions) → Standing new format file blocks (extensions ++ e ∷ []) size
  stands_extended full = record {
    format_is = format_kept extended_owned ∙ s.format_is;
    size_ok = subst IsSize (sym (blocks_stay extended_owned)) s.size_ok;
    skeleton = skeleton_extended old new format file blocks extensions size s.skeleton e full
        (λ q l. untouched_holder old new (slice_index (file ∷ extensions) q) (λ k m. x.rest.same_byte (slice_index (file ∷ extensions) q) k m (extended_beside (slice_index (file ∷ extensions) q) k (beside_headers q (omega arith)) (s.places.headers_once q (length extensions) l (omega arith)))))
        (λ j l a b. other_long (slice_index (file ∷ extensions) (length extensions)) j l (beside_headers (length extensions) (omega arith)) a b)
        x.link (λ z. x.sum)
        (other_long file FILE_SIZE (omega arith) (beside_headers 0 (omega arith)) (omega arith) (omega arith))
        (other_long file 4 (omega arith) (beside_headers 0 (omega arith)) (omega arith) (omega arith))
        (λ f i l. untouched_data old new (slice_index blocks i) (λ k m. x.rest.same_byte (slice_index blocks i) k m (extended_beside (slice_index blocks i) k (beside_data i l) (λ z. s.places.apart (length extensions) i (omega arith) l (sym z)))))
        x.fields x.no_pointers x.no_next;
    places = subst (λ (n : ℕ). AreApart n file blocks (extensions ++ e ∷ [])) (sym (blocks_stay extended_owned)) (apart_extended (block_count old) file blocks extensions s.places e inside beside_headers beside_data);
    map = map_stays extended_owned s.map;
    headers_used = λ q l. elim (cases_lt q (suc (length extensions))) [
      | inl m ↦ subst (IsInUse new) (sym (head_pushed_before file extensions e q (omega arith))) (use_stays extended_owned (slice_index (file ∷ extensions) q) (s.places.headers_inside q (omega arith)) (s.headers_used q (omega arith)))
      | inr m ↦ subst (IsInUse new) (sym (head_pushed_last file extensions e q (omega (arith, length_push extensions e)))) (use_stays extended_owned e inside used)
    ];
    data_used = λ i l. use_stays extended_owned (slice_index blocks i) (s.places.data_inside i l) (s.data_used i l);
  }

  -- the bytes of data blocks are unchanged
  pub extended_byte : (i k : ℕ) → i < length blocks → k < 512 → byte_at new (slice_index blocks i) k ≡ byte_at old (slice_index blocks i) k
  extended_byte i k l m = x.rest.same_byte (slice_index blocks i) k m (extended_beside (slice_index blocks i) k (beside_data i l) (λ z. s.places.apart (length extensions) i (omega arith) l (sym z)))

-- ---- a data block

module _ (old new : List ℕ) (format : Format) (file : ℕ) (blocks extensions : List ℕ) (size b : ℕ) (s : Standing old format file blocks extensions size) (x : IsLengthened old format file (slice_index (file ∷ extensions) (length extensions)) (slice_index blocks (length blocks - 1)) (length blocks) b new)
    (inside : IsInside (block_count old) b) (used : IsInUse old b) (beside_headers : (q : ℕ) → q ≤ length extensions → slice_index (file ∷ extensions) q ≢ b) (beside_data : (i : ℕ) → i < length blocks → slice_index blocks i ≢ b) where
  abbrev pub Lengthened : ℕ → ℕ → Type 0
  Lengthened c k = AtDataFields format b c k ⊎ (AtLink format (length blocks) (slice_index blocks (length blocks - 1)) c k ⊎ (AtFields (slice_index (file ∷ extensions) (length extensions)) (FIRST_POINTER - length blocks % 72) 2 c k ⊎ AtField file 4 c k))

  lengthened_owner : (c k : ℕ) → Lengthened c k → IsInUse old c × IsInside (block_count old) c
  lengthened_owner c k (inl at) = (subst (IsInUse old) (sym at.1) used, subst (IsInside (block_count old)) (sym at.1) inside)
  lengthened_owner c k (inr (inl at)) = (subst (IsInUse old) (sym at.2.0) (s.data_used (length blocks - 1) (omega (arith, at.1))), subst (IsInside (block_count old)) (sym at.2.0) (s.places.data_inside (length blocks - 1) (omega (arith, at.1))))
  lengthened_owner c k (inr (inr (inl at))) = (subst (IsInUse old) (sym at.0) (s.headers_used (length extensions) (omega arith)), subst (IsInside (block_count old)) (sym at.0) (s.places.headers_inside (length extensions) (omega arith)))
  lengthened_owner c k (inr (inr (inr at))) = (subst (IsInUse old) (sym at.0) (s.headers_used 0 (omega arith)), subst (IsInside (block_count old)) (sym at.0) (s.places.headers_inside 0 (omega arith)))

  -- an extension block other than the last one
  other_extension : (q k : ℕ) → 0 < q → q < length extensions → ¬ Lengthened (slice_index (file ∷ extensions) q) k
  other_extension q k l m (inl at) = beside_headers q (omega arith) at.1
  other_extension q k l m (inr (inl at)) = s.places.apart q (length blocks - 1) (omega arith) (omega (arith, at.1)) at.2.0
  other_extension q k l m (inr (inr (inl at))) = s.places.headers_once q (length extensions) m (omega arith) at.0
  other_extension q k l m (inr (inr (inr at))) = s.places.headers_once 0 q l (omega arith) (sym at.0)

  -- an unchanged long of a pointer block
  kept_long : (q k j : ℕ) → k / 4 ≡ j → q ≤ length extensions → (q ≡ length extensions → (j ≢ 2) × (j ≢ FIRST_POINTER - length blocks % 72)) → j ≢ 4 → j ≢ 5 → ¬ Lengthened (slice_index (file ∷ extensions) q) k
  kept_long q k j m l a d e (inl at) = beside_headers q l at.1
  kept_long q k j m l a d e (inr (inl at)) = s.places.apart q (length blocks - 1) l (omega (arith, at.1)) at.2.0
  kept_long q k j m l a d e (inr (inr (inl (at, z)))) = elim (cases_lt q (length extensions)) [
    | inl r ↦ s.places.headers_once q (length extensions) r (omega arith) at
    | inr r ↦ let no = a (omega arith) in omega (arith, m, z, no, e)
  ]
  kept_long q k j m l a d e (inr (inr (inr (at, z)))) = omega (arith, m, z, d, e)

  header_long : (q j : ℕ) → j < 128 → q ≤ length extensions → (q ≡ length extensions → (j ≢ 2) × (j ≢ FIRST_POINTER - length blocks % 72)) → j ≢ 4 → j ≢ 5 → long new (slice_index (file ∷ extensions) q) j ≡ long old (slice_index (file ∷ extensions) q) j
  header_long q j l m a d e = same_long Lengthened old new x.rest (slice_index (file ∷ extensions) q) j l (λ k r. kept_long q k j r m a d e)

  -- a data block other than the last one
  other_data : (i k : ℕ) → suc i < length blocks → ¬ Lengthened (slice_index blocks i) k
  other_data i k l (inl at) = beside_data i (omega arith) at.1
  other_data i k l (inr (inl at)) = s.places.data_once i (length blocks - 1) (omega arith) (omega arith) at.2.0
  other_data i k l (inr (inr (inl at))) = s.places.apart (length extensions) i (omega arith) (omega arith) (sym at.0)
  other_data i k l (inr (inr (inr at))) = s.places.apart 0 i (omega arith) (omega arith) (sym at.0)

  -- an unchanged long of the last data block
  last_other : (i k j : ℕ) → k / 4 ≡ j → suc i ≡ length blocks → j < 4 → ¬ Lengthened (slice_index blocks i) k
  last_other i k j m l a (inl at) = beside_data i (omega arith) at.1
  last_other i k j m l a (inr (inl (f, c, (at, z)))) = omega (arith, m, z, a)
  last_other i k j m l a (inr (inr (inl at))) = s.places.apart (length extensions) i (omega arith) (omega arith) (sym at.0)
  last_other i k j m l a (inr (inr (inr at))) = s.places.apart 0 i (omega arith) (omega arith) (sym at.0)

  pub longer_owned : Owned Lengthened old new
  longer_owned = record { same = x.rest; size = s.size_ok; owner = lengthened_owner }

  keeps_holder : (q : ℕ) → q < length extensions → KeepsHolder old new (slice_index (file ∷ extensions) q)
  keeps_holder zero l = record {
    longs = λ j m a d e. header_long 0 j m (omega arith) (λ z. absurd (omega arith)) a d;
    sum = λ z. x.file_sum;
  }
  keeps_holder (suc q) l = untouched_holder old new (slice_index (file ∷ extensions) (suc q)) (λ k m. x.rest.same_byte (slice_index (file ∷ extensions) (suc q)) k m (other_extension (suc q) k (omega arith) l))

  last_is : (i : ℕ) → suc i ≡ length blocks → slice_index blocks i ≡ slice_index blocks (length blocks - 1)
  last_is i e = let here : i ≡ length blocks - 1 = omega arith in ap (slice_index blocks) here

  pub stands_longer : length blocks % 72 ≡ length blocks - 72 * length extensions → 72 * length extensions ≤ length blocks → (format ≡ Ofs → size ≤ 488 * length blocks) → Standing new format file (blocks ++ b ∷ []) extensions size
  stands_longer place least full = record {
    format_is = format_kept longer_owned ∙ s.format_is;
    size_ok = subst IsSize (sym (blocks_stay longer_owned)) s.size_ok;
    skeleton = skeleton_longer old new format file blocks extensions size s.skeleton b (length blocks % 72) (omega (arith, place, least)) (omega arith)
        keeps_holder
        (λ j l a d e f. header_long (length extensions) j l (omega arith) (λ z. (a, d)) e f)
        x.pointer x.counted x.holder_sum
        (header_long 0 FILE_SIZE (omega arith) (omega arith) (λ z. (omega arith, omega arith)) (omega arith) (omega arith))
        x.new_first x.first
        (λ f i l. untouched_data old new (slice_index blocks i) (λ k m. x.rest.same_byte (slice_index blocks i) k m (other_data i k l)))
        (λ f i l. (
          (λ j m. same_long Lengthened old new x.rest (slice_index blocks i) j (omega arith) (λ k r. last_other i k j r l m)),
          ap (λ (c : ℕ). long new c 4) (last_is i l) ∙ x.link f (omega arith),
          λ z. ap (block_sum new) (last_is i l) ∙ x.last_sum f (omega arith) (ap (block_sum old) (sym (last_is i l)) ∙ z),
        ))
        (λ f. (record { primary = x.primary f; header = x.header f; sequence = x.sequence f; held = x.held ∙ omega (arith, full f); sum = x.sum f }, x.next));
    places = subst (λ (n : ℕ). AreApart n file (blocks ++ b ∷ []) extensions) (sym (blocks_stay longer_owned)) (apart_longer (block_count old) file blocks extensions s.places b inside beside_headers beside_data);
    map = map_stays longer_owned s.map;
    headers_used = λ q l. use_stays longer_owned (slice_index (file ∷ extensions) q) (s.places.headers_inside q l) (s.headers_used q l);
    data_used = λ i l. elim (cases_lt i (length blocks)) [
      | inl m ↦ subst (IsInUse new) (sym (get_or_append_left blocks (b ∷ []) 0 i m)) (use_stays longer_owned (slice_index blocks i) (s.places.data_inside i m) (s.data_used i m))
      | inr m ↦ subst (IsInUse new) (sym (get_or_push blocks b 0 i (omega (arith, length_push blocks b)))) (use_stays longer_owned b inside used)
    ];
  }

  -- the data bytes of the old blocks are unchanged
  pub longer_byte : (i k : ℕ) → i < length blocks → k < 512 → (format ≡ Ofs → 24 ≤ k) → byte_at new (slice_index blocks i) k ≡ byte_at old (slice_index blocks i) k
  longer_byte i k l m a = x.rest.same_byte (slice_index blocks i) k m no
    where
      no : ¬ Lengthened (slice_index blocks i) k
      no (inl at) = beside_data i l at.1
      no (inr (inl (f, c, (at, z)))) = omega (arith, z, a f)
      no (inr (inr (inl at))) = s.places.apart (length extensions) i (omega arith) l (sym at.0)
      no (inr (inr (inr at))) = s.places.apart 0 i (omega arith) l (sym at.0)

  -- the data bytes of the new block are unchanged
  pub longer_new_byte : (k : ℕ) → k < 512 → (format ≡ Ofs → 24 ≤ k) → byte_at new b k ≡ byte_at old b k
  longer_new_byte k m a = x.rest.same_byte b k m no
    where
      no : ¬ Lengthened b k
      no (inl at) = omega (arith, at.2, a at.0)
      no (inr (inl (f, c, (at, z)))) = beside_data (length blocks - 1) (omega (arith, c)) (sym at)
      no (inr (inr (inl at))) = beside_headers (length extensions) (omega arith) (sym at.0)
      no (inr (inr (inr at))) = beside_headers 0 (omega arith) (sym at.0)

module _ (old new : List ℕ) (format : Format) (file : ℕ) (blocks extensions : List ℕ) (size d e size' : ℕ) (s : Standing old format file blocks extensions size)
    (x : IsResized old format file (slice_index (file ∷ extensions) e) (slice_index blocks (d - 1)) d size' new) (few : d ≤ length blocks) (fewer : e ≤ length extensions) where
  abbrev pub Resized : ℕ → ℕ → Type 0
  Resized c k = AtEnd format d (slice_index blocks (d - 1)) c k ⊎ (AtFields (slice_index (file ∷ extensions) e) POINTER_COUNT NEXT_EXTENSION c k ⊎ AtFields file NEXT_DATA FILE_SIZE c k)

  resized_owner : (c k : ℕ) → Resized c k → IsInUse old c × IsInside (block_count old) c
  resized_owner c k (inl at) = (subst (IsInUse old) (sym at.2.0) (s.data_used (d - 1) (omega (arith, at.1))), subst (IsInside (block_count old)) (sym at.2.0) (s.places.data_inside (d - 1) (omega (arith, at.1))))
  resized_owner c k (inr (inl at)) = (subst (IsInUse old) (sym at.0) (s.headers_used e fewer), subst (IsInside (block_count old)) (sym at.0) (s.places.headers_inside e fewer))
  resized_owner c k (inr (inr at)) = (subst (IsInUse old) (sym at.0) (s.headers_used 0 (omega arith)), subst (IsInside (block_count old)) (sym at.0) (s.places.headers_inside 0 (omega arith)))

  -- an extension block before the last one
  resized_extension : (q k : ℕ) → 0 < q → q < e → ¬ Resized (slice_index (file ∷ extensions) q) k
  resized_extension q k l m (inl at) = s.places.apart q (d - 1) (omega arith) (omega (arith, at.1)) at.2.0
  resized_extension q k l m (inr (inl at)) = s.places.headers_once q e m fewer at.0
  resized_extension q k l m (inr (inr at)) = s.places.headers_once 0 q l (omega arith) (sym at.0)

  -- an extension block after the last one
  pub later_extension : (q k : ℕ) → e < q → q ≤ length extensions → ¬ Resized (slice_index (file ∷ extensions) q) k
  later_extension q k l m (inl at) = s.places.apart q (d - 1) m (omega (arith, at.1)) at.2.0
  later_extension q k l m (inr (inl at)) = s.places.headers_once e q l m (sym at.0)
  later_extension q k l m (inr (inr at)) = s.places.headers_once 0 q (omega arith) m (sym at.0)

  pub later_long : (q j : ℕ) → j < 128 → e < q → q ≤ length extensions → long new (slice_index (file ∷ extensions) q) j ≡ long old (slice_index (file ∷ extensions) q) j
  later_long q j l m n = same_long Resized old new x.rest (slice_index (file ∷ extensions) q) j l (λ k r. later_extension q k m n)

  -- an unchanged long of a pointer block
  resized_other : (q k j : ℕ) → k / 4 ≡ j → q ≤ e → (q ≡ e → (j ≢ 2) × (j ≢ NEXT_EXTENSION)) → j ≢ 4 → j ≢ 5 → j ≢ FILE_SIZE → ¬ Resized (slice_index (file ∷ extensions) q) k
  resized_other q k j m l a f g h (inl at) = s.places.apart q (d - 1) (omega arith) (omega (arith, at.1)) at.2.0
  resized_other q k j m l a f g h (inr (inl (at, z))) = elim (cases_lt q e) [
    | inl r ↦ s.places.headers_once q e r fewer at
    | inr r ↦ let no = a (omega arith) in omega (arith, m, z, no, g)
  ]
  resized_other q k j m l a f g h (inr (inr (at, z))) = omega (arith, m, z, f, g, h)

  pub resized_long : (q j : ℕ) → j < 128 → q ≤ e → (q ≡ e → (j ≢ 2) × (j ≢ NEXT_EXTENSION)) → j ≢ 4 → j ≢ 5 → j ≢ FILE_SIZE → long new (slice_index (file ∷ extensions) q) j ≡ long old (slice_index (file ∷ extensions) q) j
  resized_long q j l m a f g h = same_long Resized old new x.rest (slice_index (file ∷ extensions) q) j l (λ k r. resized_other q k j r m a f g h)

  -- a data block other than the last one, or any in FFS
  pub resized_data : (i k : ℕ) → suc i < d → ¬ Resized (slice_index blocks i) k
  resized_data i k l (inl at) = s.places.data_once i (d - 1) (omega arith) (omega arith) at.2.0
  resized_data i k l (inr (inl at)) = s.places.apart e i fewer (omega arith) (sym at.0)
  resized_data i k l (inr (inr at)) = s.places.apart 0 i (omega arith) (omega arith) (sym at.0)

  -- an unchanged long of the last data block
  resized_end : (i k j : ℕ) → k / 4 ≡ j → suc i ≡ d → (format ≡ Ofs → (j ≢ 3) × (j ≢ 4) × (j ≢ 5)) → ¬ Resized (slice_index blocks i) k
  resized_end i k j m l a (inl (f, c, (at, z))) = let no = a f in omega (arith, m, z, no)
  resized_end i k j m l a (inr (inl at)) = s.places.apart e i fewer (omega arith) (sym at.0)
  resized_end i k j m l a (inr (inr at)) = s.places.apart 0 i (omega arith) (omega arith) (sym at.0)

  -- the data bytes are unchanged
  pub resized_byte : (i k : ℕ) → i < d → k < 512 → (format ≡ Ofs → 24 ≤ k) → byte_at new (slice_index blocks i) k ≡ byte_at old (slice_index blocks i) k
  resized_byte i k l m a = elim (cases_lt (suc i) d) [
    | inl r ↦ x.rest.same_byte (slice_index blocks i) k m (resized_data i k r)
    | inr r ↦ x.rest.same_byte (slice_index blocks i) k m (resized_end i k (k / 4) refl (omega arith) (λ f. let n = a f in (omega arith, omega arith, omega arith)))
  ]

  pub resized_owned : Owned Resized old new
  resized_owned = record { same = x.rest; size = s.size_ok; owner = resized_owner }

  resized_holder : (q : ℕ) → q < e → KeepsHolder old new (slice_index (file ∷ extensions) q)
  resized_holder zero l = record {
    longs = λ j m a f g. resized_long 0 j m (omega arith) (λ z. absurd (omega arith)) a f g;
    sum = λ z. x.file_sum;
  }
  resized_holder (suc q) l = untouched_holder old new (slice_index (file ∷ extensions) (suc q)) (λ k m. x.rest.same_byte (slice_index (file ∷ extensions) (suc q)) k m (resized_extension (suc q) k (omega arith) l))

  resized_last : (i : ℕ) → suc i ≡ d → slice_index blocks i ≡ slice_index blocks (d - 1)
  resized_last i f = let here : i ≡ d - 1 = omega arith in ap (slice_index blocks) here

  pub stands_resized : e ≡ extension_count d → (format ≡ Ofs → d ≡ (size' + 487) / 488) → (format ≡ Ofs → 488 * (d - 1) ≤ size) → Standing new format file (take d blocks) (take e extensions) size'
  stands_resized e_is d_is full =
      let dl : length (take d blocks) ≡ d = length-take-le d blocks few in
      let el : length (take e extensions) ≡ e = length-take-le e extensions fewer in
      record {
        format_is = format_kept resized_owned ∙ s.format_is;
        size_ok = subst IsSize (sym (blocks_stay resized_owned)) s.size_ok;
        skeleton = skeleton_resized old new format file blocks extensions size s.skeleton d e size' few fewer (omega (arith, e_is)) (λ l. omega (arith, e_is, l)) (omega (arith, e_is))
            (λ f. omega (arith, d_is f)) full
            resized_holder
            (λ j l a b f g h. resized_long e j l (omega arith) (λ z. (a, b)) f g h)
            (x.counted ∙ omega (arith, e_is)) x.no_next x.holder_sum x.sized x.no_first x.first
            (λ f i l. untouched_data old new (slice_index blocks i) (λ k m. x.rest.same_byte (slice_index blocks i) k m (resized_data i k l)))
            (λ f i l. (
              (λ j m. same_long Resized old new x.rest (slice_index blocks i) j (omega arith) (λ k r. resized_end i k j r l (λ g. (omega arith, omega arith, omega arith)))),
              ap (λ (c : ℕ). long new c 3) (resized_last i l) ∙ x.held f (omega arith) ∙ omega (arith, l, d_is f),
              ap (λ (c : ℕ). long new c 4) (resized_last i l) ∙ x.last_next f (omega arith),
              λ z. ap (block_sum new) (resized_last i l) ∙ x.last_sum f (omega arith) (ap (block_sum old) (sym (resized_last i l)) ∙ z),
            ));
        places = subst (λ (n : ℕ). AreApart n file (take d blocks) (take e extensions)) (sym (blocks_stay resized_owned)) (apart_taken (block_count old) file blocks extensions s.places d e few fewer);
        map = map_stays resized_owned s.map;
        headers_used = λ q l. subst (IsInUse new) (sym (head_taken file extensions e q (omega (arith, l, el)))) (use_stays resized_owned (slice_index (file ∷ extensions) q) (s.places.headers_inside q (omega (arith, l, el, fewer))) (s.headers_used q (omega (arith, l, el, fewer))));
        data_used = λ i l. subst (IsInUse new) (sym (get_or-take d blocks i 0 (omega (arith, l, dl)))) (use_stays resized_owned (slice_index blocks i) (s.places.data_inside i (omega (arith, l, dl, few))) (s.data_used i (omega (arith, l, dl, few))));
      }
