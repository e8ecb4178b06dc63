-- A file that grew, or whose data and size were written, and the bytes that this leaves untouched.
use Rattle.ados_data.proofs.Common.{◌≡◌, ℕ, zero, suc, ◌/◌, ◌<◌, ◌≤◌, inl, inr, List, ◌∷◌, length, take, slice_index, refl, sym, ap, ◌∙◌, subst, arith, ◌+◌, ◌-◌, ◌%◌, ◌⊎◌, cases_lt, cases_eq, length-take, get_or-take, take-take, Format, Ofs, byte_at, long, block_count, pointer_count, file_size, format_of, SameBut, pages_of, page_block, IsPointerField, IsHeaderField, IsExtensionField, data_end, IsBeside, KeepsUnnamed, POINTER_COUNT, FILE_SIZE, NEXT_EXTENSION, NEXT_DATA, same_long, data_size, data_start, AtData, AtFields, IsResized, AtEnd}
use Rattle.ados_data.proofs.Skeleton.{Skeleton}
use Rattle.ados_data.proofs.Standing.{Standing}

-- ---- the fields of more pointers, and the end of more bytes

pub more_pointers : (a b j : ℕ) → a ≤ b → IsPointerField a j → IsPointerField b j
more_pointers a b j l z = grind arith

pub more_header : (a b j : ℕ) → a ≤ b → IsHeaderField a j → IsHeaderField b j
more_header a b j l z = grind arith

pub more_extension : (a b j : ℕ) → a ≤ b → IsExtensionField a j → IsExtensionField b j
more_extension a b j l z = grind arith

pub reach : (format : Format) (a b i k : ℕ) → a ≤ b → data_end format b i ≤ k → data_end format a i ≤ k
reach format a b i k l h = grind arith

pub within_reach : (format : Format) (a b i k : ℕ) → a ≤ b → k < data_end format a i → ¬ (data_end format b i ≤ k)
within_reach format a b i k l m h = grind arith

-- ---- growth

-- a file has its old blocks at their positions, then others; its size and the number of pointers in a block did not
-- shrink; and the volume has the same bitmap blocks
pub record Grown (old : List ℕ) (file : ℕ) (blocks extensions : List ℕ) (new : List ℕ) (blocks' extensions' : List ℕ) : Type 0 where
  pub same_length : length new ≡ length old
  pub pages : (p : ℕ) → p < pages_of old → page_block new p ≡ page_block old p
  pub same_format : format_of new ≡ format_of old
  pub size : file_size old file ≤ file_size new file
  pub few : length blocks ≤ length blocks'
  pub fewer : length extensions ≤ length extensions'
  pub datas : (i : ℕ) → i < length blocks → slice_index blocks' i ≡ slice_index blocks i
  pub headers : (q : ℕ) → q ≤ length extensions → slice_index (file ∷ extensions') q ≡ slice_index (file ∷ extensions) q
  pub counts : (q : ℕ) → q ≤ length extensions → pointer_count old (slice_index (file ∷ extensions) q) ≤ pointer_count new (slice_index (file ∷ extensions) q)

-- a list that is a prefix of another
pub front_length : (xs ys : List ℕ) → take (length xs) ys ≡ xs → length xs ≤ length ys
front_length xs ys e = omega (arith, length-take (length xs) ys, ap length e)

pub front_at : (xs ys : List ℕ) → take (length xs) ys ≡ xs → (i : ℕ) → i < length xs → slice_index ys i ≡ slice_index xs i
front_at xs ys e i l = sym (get_or-take (length xs) ys i 0 l) ∙ ap (λ (zs : List ℕ). slice_index zs i) e

pub front_header : (file : ℕ) (xs ys : List ℕ) → take (length xs) ys ≡ xs → (q : ℕ) → q ≤ length xs → slice_index (file ∷ ys) q ≡ slice_index (file ∷ xs) q
front_header file xs ys e zero l = refl
front_header file xs ys e (suc q) l = front_at xs ys e q (omega arith)

pub front_both : (xs ys zs : List ℕ) → take (length xs) ys ≡ xs → take (length ys) zs ≡ ys → take (length xs) zs ≡ xs
front_both xs ys zs d e = sym (take-take (length xs) (length ys) zs (front_length xs ys d)) ∙ ap (take (length xs)) e ∙ d

pub grown_of : (old new : List ℕ) (f f' : Format) (file : ℕ) (blocks extensions blocks' extensions' : List ℕ) (size size' : ℕ) → Skeleton old f file blocks extensions size → Skeleton new f' file blocks' extensions' size' →
    length new ≡ length old → ((p : ℕ) → p < pages_of old → page_block new p ≡ page_block old p) → format_of new ≡ format_of old → size ≤ size' → take (length blocks) blocks' ≡ blocks → take (length extensions) extensions' ≡ extensions → Grown old file blocks extensions new blocks' extensions'
grown_of old new f f' file blocks extensions blocks' extensions' size size' s t same pages kept more front front' = record {
  same_length = same;
  pages = pages;
  same_format = kept;
  size = omega (arith, s.size_field, t.size_field, more);
  few = front_length blocks blocks' front;
  fewer = front_length extensions extensions' front';
  datas = front_at blocks blocks' front;
  headers = front_header file extensions extensions' front';
  counts = λ q l.
      let here : pointer_count new (slice_index (file ∷ extensions') q) ≡ pointer_count new (slice_index (file ∷ extensions) q) = ap (pointer_count new) (front_header file extensions extensions' front' q l) in
      omega (arith, here, (s.holders q l).count, (t.holders q (omega (arith, l, front_length extensions extensions' front'))).count, front_length blocks blocks' front);
}

-- ---- nothing changes

pub keeps_same : (image : List ℕ) (file : ℕ) (blocks extensions : List ℕ) → KeepsUnnamed image file blocks extensions image blocks extensions
keeps_same image file blocks extensions = record {
  others = λ c k l o. refl;
  header = λ k l n. refl;
  extension = λ q k l m r n. refl;
  slack = λ i k l m r d. refl;
  new_extension = λ q k l m r n. absurd (omega (arith, l, m));
  new_data = λ i k l m r d. absurd (omega (arith, l, m));
  first_taken = λ z l. absurd (omega (arith, z, l));
  first_given = λ l z. absurd (omega (arith, z, l));
  first_kept = λ e. refl;
}

-- ---- one growth after another

module _ (old mid new : List ℕ) (file : ℕ) (blocks extensions blocks' extensions' blocks'' extensions'' : List ℕ) (g : Grown old file blocks extensions mid blocks' extensions') (h : Grown mid file blocks' extensions' new blocks'' extensions'') where
  counts_mid : block_count mid ≡ block_count old
  counts_mid = ap (λ (n : ℕ). n / 512) g.same_length

  beside_old : (c : ℕ) → IsBeside old file blocks'' extensions'' c → IsBeside old file blocks' extensions' c
  beside_old c o = record {
    inside = o.inside;
    beside_pages = o.beside_pages;
    beside_headers = λ q l e. o.beside_headers q (omega (arith, l, h.fewer)) (e ∙ sym (h.headers q l));
    beside_data = λ i l e. o.beside_data i (omega (arith, l, h.few)) (e ∙ sym (h.datas i l));
  }

  beside_mid : (c : ℕ) → IsBeside old file blocks'' extensions'' c → IsBeside mid file blocks'' extensions'' c
  beside_mid c o = record {
    inside = omega (arith, o.inside, counts_mid);
    beside_pages = λ p l e. let m : p < pages_of old = omega (arith, l, counts_mid) in o.beside_pages p m (e ∙ g.pages p m);
    beside_headers = o.beside_headers;
    beside_data = o.beside_data;
  }

  later_count : (q : ℕ) → q ≤ length extensions' → pointer_count mid (slice_index (file ∷ extensions'') q) ≤ pointer_count new (slice_index (file ∷ extensions'') q)
  later_count q l = subst (λ (c : ℕ). pointer_count mid c ≤ pointer_count new c) (sym (h.headers q l)) (h.counts q l)

  earlier_count : (q : ℕ) → q ≤ length extensions → pointer_count old (slice_index (file ∷ extensions'') q) ≤ pointer_count mid (slice_index (file ∷ extensions'') q)
  earlier_count q l = subst (λ (c : ℕ). pointer_count old c ≤ pointer_count mid c) (sym (h.headers q (omega (arith, l, g.fewer)) ∙ g.headers q l)) (g.counts q l)

  module _ (a : KeepsUnnamed old file blocks extensions mid blocks' extensions') (b : KeepsUnnamed mid file blocks' extensions' new blocks'' extensions'') where
    pub keeps_both : KeepsUnnamed old file blocks extensions new blocks'' extensions''
    keeps_both = record {
      others = λ c k l o. b.others c k l (beside_mid c o) ∙ a.others c k l (beside_old c o);
      header = λ k l n.
          b.header k l (λ z. n (more_header (pointer_count new file) (pointer_count new file) (k / 4) (omega (arith, earlier_count 0 (omega arith), later_count 0 (omega arith))) z))
          ∙ a.header k l (λ z. n (more_header (pointer_count mid file) (pointer_count new file) (k / 4) (omega (arith, earlier_count 0 (omega arith), later_count 0 (omega arith))) z));
      extension = λ q k l m r n.
          let there : slice_index extensions'' q ≡ slice_index extensions' q = h.headers (suc q) (omega (arith, g.fewer, l)) in
          let early = earlier_count (suc q) (omega arith) in
          let late = later_count (suc q) (omega (arith, g.fewer, l)) in
          b.extension q k (omega (arith, g.fewer, l)) m r (λ z. n (more_pointers (pointer_count new (slice_index extensions'' q)) (pointer_count new (slice_index extensions'' q)) (k / 4) (omega (arith, early, late)) z))
          ∙ subst (λ (c : ℕ). ¬ IsPointerField (pointer_count mid c) (k / 4) → byte_at mid c k ≡ byte_at old c k) (sym there) (a.extension q k l (omega (arith, g.fewer, l)) r)
          (λ z. n (more_pointers (pointer_count mid (slice_index extensions'' q)) (pointer_count new (slice_index extensions'' q)) (k / 4) (omega (arith, early, late)) z));
      slack = λ i k l m r d.
          let there : slice_index blocks'' i ≡ slice_index blocks' i = h.datas i (omega (arith, g.few, l)) in
          b.slack i k (omega (arith, g.few, l)) m r (later_end (file_size new file) (file_size new file) i k (omega (arith, g.size, h.size)) d)
          ∙ ap (λ (c : ℕ). byte_at mid c k) there
          ∙ a.slack i k l (omega (arith, g.few, l)) r (reach (format_of old) (file_size mid file) (file_size new file) i k (omega (arith, g.size, h.size)) d)
          ∙ ap (λ (c : ℕ). byte_at old c k) (sym there);
      new_extension = λ q k l m r n. elim (cases_lt q (length extensions')) [
        | inl s ↦
            let there : slice_index extensions'' q ≡ slice_index extensions' q = h.headers (suc q) (omega arith) in
            let late = later_count (suc q) (omega arith) in
            b.extension q k s m r (λ z. n (inl (more_pointers (pointer_count new (slice_index extensions'' q)) (pointer_count new (slice_index extensions'' q)) (k / 4) (omega (arith, late)) z)))
            ∙ subst (λ (c : ℕ). ¬ IsExtensionField (pointer_count mid c) (k / 4) → byte_at mid c k ≡ 0) (sym there) (a.new_extension q k l s r)
            (λ z. n (more_extension (pointer_count mid (slice_index extensions'' q)) (pointer_count new (slice_index extensions'' q)) (k / 4) late z))
        | inr s ↦ b.new_extension q k s m r n
      ];
      new_data = λ i k l m r d. elim (cases_lt i (length blocks')) [
        | inl s ↦
            b.slack i k s m r (later_end (file_size new file) (file_size new file) i k (omega (arith, h.size)) d)
            ∙ ap (λ (c : ℕ). byte_at mid c k) (h.datas i s)
            ∙ a.new_data i k l s r (reach (format_of old) (file_size mid file) (file_size new file) i k h.size d)
        | inr s ↦ b.new_data i k s m r (later_end (file_size new file) (file_size new file) i k (omega arith) d)
      ];
      first_taken = λ z l. elim (cases_lt 0 (length blocks')) [
        | inl s ↦ b.first_kept (inr (s, l)) ∙ a.first_taken z s ∙ sym (h.datas 0 s)
        | inr s ↦ b.first_taken (omega arith) l
      ];
      first_given = λ l z. absurd (omega (arith, l, z, g.few, h.few));
      first_kept = λ e. elim e [
        | inl z ↦ b.first_kept (inl (omega (arith, z.1, h.few), z.1)) ∙ a.first_kept (inl (z.0, omega (arith, z.1, h.few)))
        | inr s ↦ b.first_kept (inr (omega (arith, s.0, g.few), s.1)) ∙ a.first_kept (inr (s.0, omega (arith, s.0, g.few)))
      ];
    }
      where
        later_end : (x y i k : ℕ) → x ≤ y → data_end (format_of old) y i ≤ k → data_end (format_of mid) x i ≤ k
        later_end x y i k l d = subst (λ (f : Format). data_end f x i ≤ k) (sym g.same_format) (reach (format_of old) x y i k l d)

-- ---- the lists are unchanged, and only fields and bytes of the file change

pub keeps_within : (changed : ℕ → ℕ → Type 0) (old new : List ℕ) (file : ℕ) (blocks extensions : List ℕ) → SameBut changed old new → ((c k : ℕ) → IsBeside old file blocks extensions c → ¬ changed c k) → ((k : ℕ) → changed file k → IsHeaderField (pointer_count new file) (k / 4)) →
    ((q k : ℕ) → q < length extensions → changed (slice_index extensions q) k → IsPointerField (pointer_count new (slice_index extensions q)) (k / 4)) → ((i k : ℕ) → i < length blocks → changed (slice_index blocks i) k → k < data_end (format_of old) (file_size new file) i) →
    long new file 4 ≡ long old file 4 → KeepsUnnamed old file blocks extensions new blocks extensions
keeps_within changed old new file blocks extensions h beside header extension within first = record {
  others = λ c k l o. h.same_byte c k l (beside c k o);
  header = λ k l n. h.same_byte file k l (λ at. n (more_header (pointer_count new file) (pointer_count new file) (k / 4) (omega arith) (header k at)));
  extension = λ q k l m r n. h.same_byte (slice_index extensions q) k r (λ at. n (more_pointers (pointer_count new (slice_index extensions q)) (pointer_count new (slice_index extensions q)) (k / 4) (omega arith) (extension q k l at)));
  slack = λ i k l m r d. h.same_byte (slice_index blocks i) k r (λ at. within_reach (format_of old) (file_size new file) (file_size new file) i k (omega arith) (within i k l at) d);
  new_extension = λ q k l m r n. absurd (omega (arith, l, m));
  new_data = λ i k l m r d. absurd (omega (arith, l, m));
  first_taken = λ z l. absurd (omega (arith, z, l));
  first_given = λ l z. absurd (omega (arith, z, l));
  first_kept = λ e. first;
}

-- the header of an OFS data block is before the end of its bytes
header_within : (format : Format) (size i k : ℕ) → format ≡ Ofs → k < 24 → k < data_end format size i
header_within format size i k e l = grind arith

-- a part of a data block ends at the end of the file's bytes or before it
pub put_end : (format : Format) (at n size : ℕ) → at % data_size format + n ≤ data_size format → at + n ≤ size → data_start format + at % data_size format + n ≤ data_end format size (at / data_size format)
put_end format at n size l m = grind arith

module _ (old : List ℕ) (format : Format) (file : ℕ) (blocks extensions : List ℕ) (size i low high : ℕ) (s : Standing old format file blocks extensions size) (within : i < length blocks) where
  abbrev Put : ℕ → ℕ → Type 0
  Put c k = AtData format (slice_index blocks i) low high c k

  one_place : (j : ℕ) → j < length blocks → slice_index blocks j ≡ slice_index blocks i → i ≡ j
  one_place j l e = elim (cases_eq i j) [
    | inl z ↦ z
    | inr n ↦ elim (cases_lt i j) [
      | inl m ↦ absurd (s.places.data_once i j m l (sym e))
      | inr m ↦ absurd (s.places.data_once j i (omega (arith, m, n)) within e)
    ]
  ]

  put_within : (size' j k : ℕ) → high ≤ data_end format size' i → j < length blocks → Put (slice_index blocks j) k → k < data_end format size' j
  put_within size' j k reached l at = subst (λ (m : ℕ). k < data_end format size' m) (one_place j l at.0) (here at.1)
    where
      here : ((low ≤ k) × (k < high)) ⊎ ((format ≡ Ofs) × (k / 4 ≡ 5)) → k < data_end format size' i
      here (inl z) = omega (arith, z.1, reached)
      here (inr z) = header_within format size' i k z.0 (omega (arith, z.1))

  in_format : (size' j k : ℕ) → k < data_end format size' j → k < data_end (format_of old) size' j
  in_format size' j k l = subst (λ (f : Format). k < data_end f size' j) (sym s.format_is) l

  header_beside : (q k : ℕ) → q ≤ length extensions → ¬ Put (slice_index (file ∷ extensions) q) k
  header_beside q k l at = s.places.apart q i l within at.0

  -- only bytes change
  pub keeps_put : (new : List ℕ) → SameBut (AtData format (slice_index blocks i) low high) old new → high ≤ data_end format (file_size new file) i → KeepsUnnamed old file blocks extensions new blocks extensions
  keeps_put new h reached =
      keeps_within Put old new file blocks extensions h (λ c k o at. o.beside_data i within at.0)
      (λ k at. absurd (header_beside 0 k (omega arith) at))
      (λ q k l at. absurd (header_beside (suc q) k (omega arith) at))
      (λ j k l at. in_format (file_size new file) j k (put_within (file_size new file) j k reached l at))
      (same_long Put old new h file 4 (omega arith) (λ k e. header_beside 0 k (omega arith)))

-- only the size changes
module _ (old new : List ℕ) (format : Format) (file : ℕ) (blocks extensions : List ℕ) (size size' : ℕ) (s : Standing old format file blocks extensions size) (some : 0 < length blocks)
    (y : IsResized old format file (slice_index (file ∷ extensions) (length extensions)) (slice_index blocks (length blocks - 1)) (length blocks) size' new) where
  abbrev Resized : ℕ → ℕ → Type 0
  Resized c k = AtEnd format (length blocks) (slice_index blocks (length blocks - 1)) c k ⊎ (AtFields (slice_index (file ∷ extensions) (length extensions)) POINTER_COUNT NEXT_EXTENSION c k ⊎ AtFields file NEXT_DATA FILE_SIZE c k)

  beside : (c k : ℕ) → IsBeside old file blocks extensions c → ¬ Resized c k
  beside c k o (inl at) = o.beside_data (length blocks - 1) (omega (arith, some)) at.2.0
  beside c k o (inr (inl at)) = o.beside_headers (length extensions) (omega arith) at.0
  beside c k o (inr (inr at)) = o.beside_headers 0 (omega arith) at.0

  in_header : (q k : ℕ) → q ≤ length extensions → Resized (slice_index (file ∷ extensions) q) k → IsPointerField (pointer_count new (slice_index (file ∷ extensions) q)) (k / 4) ⊎ ((slice_index (file ∷ extensions) q ≡ file) × ((k / 4 ≡ 4) ⊎ (k / 4 ≡ FILE_SIZE)))
  in_header q k l (inl at) = absurd (s.places.apart q (length blocks - 1) l (omega (arith, some)) at.2.0)
  in_header q k l (inr (inl (at, z))) = grind arith
  in_header q k l (inr (inr (at, z))) = grind arith

  in_data : (j k : ℕ) → j < length blocks → Resized (slice_index blocks j) k → k < data_end (format_of old) size' j
  in_data j k l at = subst (λ (f : Format). k < data_end f size' j) (sym s.format_is) (there at)
    where
      there : Resized (slice_index blocks j) k → k < data_end format size' j
      there (inl (f, c, (at, z))) = header_within format size' j k f (omega (arith, z))
      there (inr (inl at)) = absurd (s.places.apart (length extensions) j (omega arith) l (sym at.0))
      there (inr (inr at)) = absurd (s.places.apart 0 j (omega arith) l (sym at.0))

  pub keeps_resized : KeepsUnnamed old file blocks extensions new blocks extensions
  keeps_resized =
      keeps_within Resized old new file blocks extensions y.rest beside
      (λ k at. elim (in_header 0 k (omega arith) at) [ inl z ↦ inl z | inr z ↦ inr z.1 ])
      (λ q k l at. elim (in_header (suc q) k (omega arith) at) [ inl z ↦ z | inr z ↦ absurd (s.places.headers_once 0 (suc q) (omega arith) (omega arith) (sym z.0)) ])
      (λ j k l at. subst (λ (n : ℕ). k < data_end (format_of old) n j) (sym y.sized) (in_data j k l at))
      (y.first some)
