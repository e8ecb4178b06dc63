-- One more data block: first with room for its pointer, then attached, then with the new size.
use Rattle.ados_data.proofs.Common.{◌≡◌, ◌≢◌, ℕ, suc, ◌+◌, ◌-◌, ◌*◌, ◌/◌, ◌%◌, ◌<◌, ◌≤◌, ◌⊎◌, inl, inr, List, [], ◌∷◌, ◌++◌, length, replicate, take, slice_index, refl, sym, ap, ap₂, ◌∙◌, subst, arith, cases_lt, cases_eq, length_push, length-append, length-replicate, get_or-replicate, get_or_append_left, get_or-append_right, take_all, take_at, Format, Ofs, byte_at, block_count, IsInside, IsSize, free_bit_count, format_of, block_cost, data_count, extension_count, data_size, data_start, file_byte, data_blocks, extension_blocks, contents, IsInUse, IsWritable, WritableFile, IsNewBlock, IsExtended, IsLengthened, IsResized, HasPointerRoom, End, IsEnd, Leaves, Gains, GrowsFile, KeepsUnnamed, get_or_push}
use Rattle.ados_data.proofs.Sizes.{one_more_block, one_more_cost, below_count, at_count, in_block, behind_start}
use Rattle.ados_data.proofs.Spelled.{data_blocks_are, extension_blocks_are, contents_are}
use Rattle.ados_data.proofs.Lists.{head_pushed_before, head_pushed_last}
use Rattle.ados_data.proofs.Standing.{Standing, marks_stay, count_stays, standing_of, writable_of, stands_beside_new, new_inside, new_in_use, header_beside_new, data_beside_new, untouched_new, same_blocks}
use Rattle.ados_data.proofs.Composing.{grows_to}
use Rattle.ados_data.proofs.Leaving.{leaves_same, leaves_both, leaves_taken, leaves_extended, leaves_longer, leaves_resized, beside_gains, gains_same, gains_both, gains_taken, gains_kept}
use Rattle.ados_data.proofs.Growing.{extended_owned, longer_owned, stands_extended, stands_longer, extended_byte, longer_byte, longer_new_byte, stands_resized, resized_byte, resized_owned}
use Rattle.ados_data.proofs.Grown.{Grown, grown_of, keeps_same, keeps_both}
use Rattle.ados_data.proofs.Longer.{keeps_extended, keeps_longer}

-- a file with room for one more pointer
pub record Roomy (old : List ℕ) (format : Format) (file : ℕ) (blocks was : List ℕ) (size holder : ℕ) (new : List ℕ) : Type 0 where
  pub extensions : List ℕ
  pub stands : Standing new format file blocks extensions size
  pub holder_is : holder ≡ slice_index (file ∷ extensions) (length extensions)
  pub least : 72 * length extensions ≤ length blocks
  pub room : length blocks < 72 * suc (length extensions)
  pub bytes : (i k : ℕ) → i < length blocks → k < 512 → byte_at new (slice_index blocks i) k ≡ byte_at old (slice_index blocks i) k
  pub count : free_bit_count new + (length blocks / 72 - (length blocks - 1) / 72) ≡ free_bit_count old
  pub leaves : Leaves old file blocks was new
  pub gains : Gains old file blocks was new blocks extensions
  pub front : take (length was) extensions ≡ was
  pub grown : Grown old file blocks was new blocks extensions
  pub keeps : KeepsUnnamed old file blocks was new blocks extensions

module _ (old : List ℕ) (format : Format) (file : ℕ) (blocks extensions : List ℕ) (size holder : ℕ) (new : List ℕ) (s : Standing old format file blocks extensions size)
    (fits : length extensions ≡ extension_count (length blocks)) where
  roomy_kept : (length blocks ≡ 0) ⊎ (length blocks % 72 ≢ 0) → new ≡ old → holder ≡ slice_index (file ∷ extensions) (length extensions) → Roomy old format file blocks extensions size holder new
  roomy_kept free same here = record {
    extensions = extensions;
    stands = subst (λ (i : List ℕ). Standing i format file blocks extensions size) (sym same) s;
    holder_is = here;
    least = omega (arith, fits);
    room = elim free [ inl z ↦ omega (arith, z) | inr n ↦ omega (arith, n, fits) ];
    bytes = λ i k l m. ap (λ (j : List ℕ). byte_at j (slice_index blocks i) k) same;
    count = elim free [ inl z ↦ omega (arith, z, ap free_bit_count same) | inr n ↦ omega (arith, n, ap free_bit_count same) ];
    leaves = subst (λ (i : List ℕ). Leaves old file blocks extensions i) (sym same) (leaves_same old file blocks extensions);
    gains = subst (λ (i : List ℕ). Gains old file blocks extensions i blocks extensions) (sym same) (gains_same old file blocks extensions);
    front = take_all (length extensions) extensions (omega arith);
    grown = subst (λ (i : List ℕ). Grown old file blocks extensions i blocks extensions) (sym same)
        (grown_of old old format format file blocks extensions blocks extensions size size s.skeleton s.skeleton refl (λ p l. refl) refl (omega arith) (take_all (length blocks) blocks (omega arith)) (take_all (length extensions) extensions (omega arith)));
    keeps = subst (λ (i : List ℕ). KeepsUnnamed old file blocks extensions i blocks extensions) (sym same) (keeps_same old file blocks extensions);
  }

  roomy_extended : (mid : List ℕ) → 0 < length blocks → length blocks % 72 ≡ 0 → IsNewBlock old holder mid → IsExtended mid file (slice_index (file ∷ extensions) (length extensions)) holder new → Roomy old format file blocks extensions size holder new
  roomy_extended mid some full n x =
      let t = stands_beside_new old holder mid n s.size_ok s.map format file blocks extensions size s in
      let inside = subst (λ (c : ℕ). IsInside c holder) (sym (same_blocks old holder mid n s.size_ok s.map)) (new_inside old holder mid n s.size_ok s.map) in
      let used = new_in_use old holder mid n s.size_ok s.map in
      let headers = header_beside_new old holder mid n s.size_ok s.map format file blocks extensions size s in
      let datas = data_beside_new old holder mid n s.size_ok s.map format file blocks extensions size s in
      let taken_gains : Gains old file blocks extensions mid blocks (extensions ++ holder ∷ []) = gains_taken old holder mid file blocks extensions blocks (extensions ++ holder ∷ []) n
      (λ q l. elim (cases_lt q (suc (length extensions))) [
        | inl m ↦ inl (omega arith, head_pushed_before file extensions holder q (omega arith))
        | inr m ↦ inr (head_pushed_last file extensions holder q (omega (arith, l, m, length_push extensions holder)))
      ])
      (λ i l. inl (l, refl)) (inl (suc (length extensions), omega (arith, length_push extensions holder), sym (head_pushed_last file extensions holder (suc (length extensions)) refl))) (omega arith) (omega (arith, length_push extensions holder)) (inl (omega arith)) in
      let stands_new : Standing new format file blocks (extensions ++ holder ∷ []) size = stands_extended mid new format file blocks extensions size holder t x inside used headers datas (omega (arith, fits, some, full)) in
      let leaves_new : Leaves old file blocks extensions new = leaves_both old mid new file blocks extensions blocks (extensions ++ holder ∷ []) (leaves_taken old holder mid file blocks extensions n s.size_ok s.map (s.headers_used 0 (omega arith)))
      (leaves_extended mid new format file blocks extensions size holder t x inside used headers datas)
      (beside_gains old mid file blocks extensions blocks (extensions ++ holder ∷ []) taken_gains) in
      record {
        extensions = extensions ++ holder ∷ [];
        stands = stands_new;
        holder_is = sym (head_pushed_last file extensions holder (length (extensions ++ holder ∷ [])) (omega (arith, length_push extensions holder)));
        least = omega (arith, fits, some, full, length_push extensions holder);
        room = omega (arith, fits, some, full, length_push extensions holder);
        bytes = λ i k l m. extended_byte mid new format file blocks extensions size holder t x inside used headers datas i k l m ∙ untouched_new old holder mid n s.size_ok s.map (slice_index blocks i) (s.data_used i l) k m;
        count = omega (arith, n.count, count_stays (extended_owned mid new format file blocks extensions size holder t x inside used headers datas), fits, some, full);
        leaves = leaves_new;
        front = take_at extensions (holder ∷ []) (length extensions) refl;
        grown = grown_of old new format format file blocks extensions blocks (extensions ++ holder ∷ []) size size s.skeleton stands_new.skeleton leaves_new.same_length leaves_new.pages (stands_new.format_is ∙ sym s.format_is) (omega arith)
            (take_all (length blocks) blocks (omega arith)) (take_at extensions (holder ∷ []) (length extensions) refl);
        keeps = keeps_extended old mid new format file blocks extensions size holder s n x;
        gains = gains_kept old mid new file blocks extensions blocks (extensions ++ holder ∷ []) (same_blocks old holder mid n s.size_ok s.map) (marks_stay (extended_owned mid new format file blocks extensions size holder t x inside used headers datas)) taken_gains;
      }

  pub roomy : HasPointerRoom old file (slice_index (file ∷ extensions) (length extensions)) (length blocks) holder new → Roomy old format file blocks extensions size holder new
  roomy h = elim (cases_eq (length blocks) 0) [
    | inl z ↦ let k = h.kept (inl z) in roomy_kept (inl z) k.0 k.1
    | inr m ↦ elim (cases_eq (length blocks % 72) 0) [
      | inr n ↦ let k = h.kept (inr n) in roomy_kept (inr n) k.0 k.1
      | inl z ↦ let e = h.extended (omega (arith, m)) z in roomy_extended e.0 (omega (arith, m)) z e.1 e.2
    ]
  ]

-- ---- the data block itself, and the new size

-- a file with one more data block
pub record Appended (old : List ℕ) (format : Format) (file : ℕ) (blocks was : List ℕ) (b holder size : ℕ) (new : List ℕ) : Type 0 where
  pub extensions : List ℕ
  pub stands : Standing new format file (blocks ++ b ∷ []) extensions size
  pub fits : length extensions ≡ extension_count (length (blocks ++ b ∷ []))
  pub holder_is : holder ≡ slice_index (file ∷ extensions) (length extensions)
  pub bytes : (i k : ℕ) → i < length blocks → k < 512 → (format ≡ Ofs → 24 ≤ k) → byte_at new (slice_index blocks i) k ≡ byte_at old (slice_index blocks i) k
  pub empty : (k : ℕ) → k < 512 → (format ≡ Ofs → 24 ≤ k) → byte_at new b k ≡ 0
  pub count : free_bit_count new + 1 + (length blocks / 72 - (length blocks - 1) / 72) ≡ free_bit_count old
  pub leaves : Leaves old file blocks was new
  pub gains : Gains old file blocks was new (blocks ++ b ∷ []) extensions
  pub front : take (length was) extensions ≡ was
  pub keeps : KeepsUnnamed old file blocks was new (blocks ++ b ∷ []) extensions

module _ (i0 i1 i2 i3 i4 : List ℕ) (format : Format) (file : ℕ) (blocks was : List ℕ) (size size' holder b : ℕ) (r : Roomy i0 format file blocks was size holder i1) (n : IsNewBlock i1 b i2)
    (x : IsLengthened i2 format file holder (slice_index blocks (length blocks - 1)) (length blocks) b i3) (y : IsResized i3 format file holder b (length blocks + 1) size' i4) where
  t2 : Standing i2 format file blocks r.extensions size
  t2 = stands_beside_new i1 b i2 n r.stands.size_ok r.stands.map format file blocks r.extensions size r.stands

  inside : IsInside (block_count i2) b
  inside = subst (λ (c : ℕ). IsInside c b) (sym (same_blocks i1 b i2 n r.stands.size_ok r.stands.map)) (new_inside i1 b i2 n r.stands.size_ok r.stands.map)

  used : IsInUse i2 b
  used = new_in_use i1 b i2 n r.stands.size_ok r.stands.map

  headers : (q : ℕ) → q ≤ length r.extensions → slice_index (file ∷ r.extensions) q ≢ b
  headers = header_beside_new i1 b i2 n r.stands.size_ok r.stands.map format file blocks r.extensions size r.stands

  datas : (i : ℕ) → i < length blocks → slice_index blocks i ≢ b
  datas = data_beside_new i1 b i2 n r.stands.size_ok r.stands.map format file blocks r.extensions size r.stands

  x' : IsLengthened i2 format file (slice_index (file ∷ r.extensions) (length r.extensions)) (slice_index blocks (length blocks - 1)) (length blocks) b i3
  x' = subst (λ (h : ℕ). IsLengthened i2 format file h (slice_index blocks (length blocks - 1)) (length blocks) b i3) r.holder_is x

  longer : length (blocks ++ b ∷ []) ≡ length blocks + 1
  longer = length_push blocks b

  y' : IsResized i3 format file (slice_index (file ∷ r.extensions) (length r.extensions)) (slice_index (blocks ++ b ∷ []) (length blocks + 1 - 1)) (length blocks + 1) size' i4
  y' =
      let place : length blocks ≡ length blocks + 1 - 1 = omega arith in
      subst (λ (h : ℕ). IsResized i3 format file h (slice_index (blocks ++ b ∷ []) (length blocks + 1 - 1)) (length blocks + 1) size' i4) r.holder_is
      (subst (λ (c : ℕ). IsResized i3 format file holder c (length blocks + 1) size' i4) (sym (get_or_push blocks b 0 (length blocks + 1 - 1) place)) y)

  module _ (size_is : format ≡ Ofs → size ≡ 488 * length blocks) (more : format ≡ Ofs → (488 * length blocks < size') × (size' ≤ 488 * (length blocks + 1))) (grows : size ≤ size') where
    t3 : Standing i3 format file (blocks ++ b ∷ []) r.extensions size
    t3 = stands_longer i2 i3 format file blocks r.extensions size b t2 x' inside used headers datas (omega (arith, r.least, r.room)) r.least (λ f. omega (arith, size_is f))

    few : length blocks + 1 ≤ length (blocks ++ b ∷ [])
    few = omega (arith, longer)

    t4 : Standing i4 format file (blocks ++ b ∷ []) r.extensions size'
    t4 =
        subst (λ (xs : List ℕ). Standing i4 format file xs r.extensions size') (take_all (length blocks + 1) (blocks ++ b ∷ []) (omega (arith, longer)))
        (subst (λ (xs : List ℕ). Standing i4 format file (take (length blocks + 1) (blocks ++ b ∷ [])) xs size') (take_all (length r.extensions) r.extensions (omega arith))
        (stands_resized i3 i4 format file (blocks ++ b ∷ []) r.extensions size (length blocks + 1) (length r.extensions) size' t3 y' few (omega arith) (omega (arith, r.least, r.room)) (λ f. omega (arith, more f)) (λ f. omega (arith, size_is f))))

    pub appended : Appended i0 format file blocks was b holder size' i4
    appended = record {
      extensions = r.extensions;
      stands = t4;
      fits = omega (arith, r.least, r.room, longer);
      holder_is = r.holder_is;
      bytes = λ i k l m a.
          let here : slice_index (blocks ++ b ∷ []) i ≡ slice_index blocks i = get_or_append_left blocks (b ∷ []) 0 i l in
          ap (λ (c : ℕ). byte_at i4 c k) (sym here)
          ∙ resized_byte i3 i4 format file (blocks ++ b ∷ []) r.extensions size (length blocks + 1) (length r.extensions) size' t3 y' few (omega arith) i k (omega arith) m a
          ∙ ap (λ (c : ℕ). byte_at i3 c k) here
          ∙ longer_byte i2 i3 format file blocks r.extensions size b t2 x' inside used headers datas i k l m a
          ∙ untouched_new i1 b i2 n r.stands.size_ok r.stands.map (slice_index blocks i) (r.stands.data_used i l) k m
          ∙ r.bytes i k l m;
      empty = λ k m a.
          let here : slice_index (blocks ++ b ∷ []) (length blocks) ≡ b = get_or_push blocks b 0 (length blocks) refl in
          ap (λ (c : ℕ). byte_at i4 c k) (sym here)
          ∙ resized_byte i3 i4 format file (blocks ++ b ∷ []) r.extensions size (length blocks + 1) (length r.extensions) size' t3 y' few (omega arith) (length blocks) k (omega arith) m a
          ∙ ap (λ (c : ℕ). byte_at i3 c k) here
          ∙ longer_new_byte i2 i3 format file blocks r.extensions size b t2 x' inside used headers datas k m a
          ∙ n.empty k m;
      count = omega (
        arith,
        r.count,
        n.count,
        count_stays (longer_owned i2 i3 format file blocks r.extensions size b t2 x' inside used headers datas),
        count_stays (resized_owned i3 i4 format file (blocks ++ b ∷ []) r.extensions size (length blocks + 1) (length r.extensions) size' t3 y' few (omega arith)),
      );
      leaves = leaves_both i0 i1 i4 file blocks was blocks r.extensions r.leaves later_leaves (beside_gains i0 i1 file blocks was blocks r.extensions r.gains);
      front = r.front;
      keeps = keeps_both i0 i1 i4 file blocks was blocks r.extensions (blocks ++ b ∷ []) r.extensions r.grown later_grown r.keeps later_keeps;
      gains =
          gains_both i0 i1 i4 file blocks was blocks r.extensions (blocks ++ b ∷ []) r.extensions counts01
          (λ q l. subst (λ (m : ℕ). IsInside m (slice_index (file ∷ r.extensions) q)) counts04 (t4.places.headers_inside q l))
          (λ i l. subst (λ (m : ℕ). IsInside m (slice_index (blocks ++ b ∷ []) i)) counts04 (t4.places.data_inside i l))
          (take_at blocks (b ∷ []) (length blocks) refl) (take_all (length r.extensions) r.extensions (omega arith))
          (λ i l. (r.stands.data_used i l).marked) (λ q l. (r.stands.headers_used (suc q) (omega (arith, l))).marked) r.least (omega (arith, r.room)) r.gains
          (gains_kept i1 i3 i4 file blocks r.extensions (blocks ++ b ∷ []) r.extensions counts13 (marks_stay (resized_owned i3 i4 format file (blocks ++ b ∷ []) r.extensions size (length blocks + 1) (length r.extensions) size' t3 y' few (omega arith)))
          (gains_kept i1 i2 i3 file blocks r.extensions (blocks ++ b ∷ []) r.extensions (same_blocks i1 b i2 n r.stands.size_ok r.stands.map) (marks_stay (longer_owned i2 i3 format file blocks r.extensions size b t2 x' inside used headers datas)) new_gains));
    }
      where
        new_gains : Gains i1 file blocks r.extensions i2 (blocks ++ b ∷ []) r.extensions
        new_gains = gains_taken i1 b i2 file blocks r.extensions (blocks ++ b ∷ []) r.extensions n (λ q l. inl (l, refl))
            (λ i l. elim (cases_lt i (length blocks)) [
              | inl m ↦ inl (m, get_or_append_left blocks (b ∷ []) 0 i m)
              | inr m ↦ inr (get_or_push blocks b 0 i (omega (arith, l, m, length_push blocks b)))
            ])
            (inr (length blocks, omega (arith, length_push blocks b), sym (get_or_push blocks b 0 (length blocks) refl)))
            (omega (arith, length_push blocks b)) (omega arith) (inr (omega arith))

        later_leaves : Leaves i1 file blocks r.extensions i4
        later_leaves =
            leaves_both i1 i2 i4 file blocks r.extensions (blocks ++ b ∷ []) r.extensions (leaves_taken i1 b i2 file blocks r.extensions n r.stands.size_ok r.stands.map (r.stands.headers_used 0 (omega arith)))
            (leaves_both i2 i3 i4 file (blocks ++ b ∷ []) r.extensions (blocks ++ b ∷ []) r.extensions (leaves_longer i2 i3 format file blocks r.extensions size b t2 x' inside used headers datas)
            (leaves_resized i3 i4 format file (blocks ++ b ∷ []) r.extensions size (length blocks + 1) (length r.extensions) size' t3 y' few (omega arith)) (λ c o. (o.beside_headers, o.beside_data)))
            (beside_gains i1 i2 file blocks r.extensions (blocks ++ b ∷ []) r.extensions new_gains)

        later_grown : Grown i1 file blocks r.extensions i4 (blocks ++ b ∷ []) r.extensions
        later_grown =
            grown_of i1 i4 format format file blocks r.extensions (blocks ++ b ∷ []) r.extensions size size' r.stands.skeleton t4.skeleton later_leaves.same_length later_leaves.pages (t4.format_is ∙ sym r.stands.format_is) grows
            (take_at blocks (b ∷ []) (length blocks) refl) (take_all (length r.extensions) r.extensions (omega arith))

        later_keeps : KeepsUnnamed i1 file blocks r.extensions i4 (blocks ++ b ∷ []) r.extensions
        later_keeps = keeps_longer i1 i2 i3 i4 format file blocks r.extensions size b size' r.stands n x' (subst (λ (h : ℕ). IsResized i3 format file h b (length blocks + 1) size' i4) r.holder_is y) r.least r.room

        counts01 : block_count i1 ≡ block_count i0
        counts01 = ap (λ (m : ℕ). m / 512) r.leaves.same_length

        counts13 : block_count i3 ≡ block_count i1
        counts13 = ap (λ (m : ℕ). m / 512) x.rest.same_length ∙ same_blocks i1 b i2 n r.stands.size_ok r.stands.map

        counts04 : block_count i4 ≡ block_count i0
        counts04 = ap (λ (m : ℕ). m / 512) y.rest.same_length ∙ counts13 ∙ counts01

-- ---- the premises of the calls

module _ {i0 i1 i2 : List ℕ} {format : Format} {file : ℕ} {blocks was : List ℕ} {size holder b : ℕ} (r : Roomy i0 format file blocks was size holder i1) (n : IsNewBlock i1 b i2) where
  blocks_same : block_count i2 ≡ block_count i1
  blocks_same = same_blocks i1 b i2 n r.stands.size_ok r.stands.map

  pub file_inside : file < block_count i2
  file_inside = omega (arith, blocks_same, r.stands.places.headers_inside 0 (omega arith))

  pub last_apart : {count last : ℕ} → count ≡ length blocks → last ≡ slice_index blocks (length blocks - 1) → 0 < count → (last ≢ holder) × (last ≢ file) × (last ≢ b)
  last_apart e f l = (
    (λ z. r.stands.places.apart (length r.extensions) (length blocks - 1) (omega arith) (omega arith) (sym (sym f ∙ z ∙ r.holder_is))),
    (λ z. r.stands.places.apart 0 (length blocks - 1) (omega arith) (omega arith) (sym (sym f ∙ z))),
    (λ z. data_beside_new i1 b i2 n r.stands.size_ok r.stands.map format file blocks r.extensions size r.stands (length blocks - 1) (omega arith) (sym f ∙ z)),
  )

  pub new_apart : (b ≢ holder) × (b ≢ file)
  new_apart = (
    (λ z. header_beside_new i1 b i2 n r.stands.size_ok r.stands.map format file blocks r.extensions size r.stands (length r.extensions) (omega arith) (sym (z ∙ r.holder_is))),
    (λ z. header_beside_new i1 b i2 n r.stands.size_ok r.stands.map format file blocks r.extensions size r.stands 0 (omega arith) (sym z)),
  )

-- ---- the contract of a call

module _ {i0 : List ℕ} {format : Format} {file : ℕ} {end : End} (w : WritableFile i0 file) (ok : IsSize (block_count i0)) (f : format ≡ format_of i0) (e : IsEnd i0 file end) where
  pub stands_first : Standing i0 format file (data_blocks i0 file) (extension_blocks i0 file) (length (contents i0 file))
  stands_first = subst (λ (t : Format). Standing i0 t file (data_blocks i0 file) (extension_blocks i0 file) (length (contents i0 file))) (sym f) (standing_of i0 file (data_blocks i0 file) (extension_blocks i0 file) (contents i0 file) ok w)

  pub room_of : {holder : ℕ} {i1 : List ℕ} → HasPointerRoom i0 file end.holder end.count holder i1 → Roomy i0 format file (data_blocks i0 file) (extension_blocks i0 file) (length (contents i0 file)) holder i1
  room_of {holder} {i1} h =
      roomy i0 format file (data_blocks i0 file) (extension_blocks i0 file) (length (contents i0 file)) holder i1 stands_first w.lawful.extensions_fit
      (subst (λ (c : ℕ). HasPointerRoom i0 file (slice_index (file ∷ extension_blocks i0 file) (length (extension_blocks i0 file))) c holder i1) e.counted
      (subst (λ (c : ℕ). HasPointerRoom i0 file c end.count holder i1) e.holder_is h))

  module _ {size' holder b : ℕ} {new : List ℕ} (a : Appended i0 format file (data_blocks i0 file) (extension_blocks i0 file) b holder size' new) (full : length (contents i0 file) ≡ data_size format * end.count) (over : data_size format * end.count < size') (within : size' ≤ data_size format * (end.count + 1)) where
    abbrev grown : List ℕ
    grown = contents i0 file ++ replicate (size' - length (contents i0 file)) 0

    size_is : length grown ≡ size'
    size_is = omega (arith, length-append (contents i0 file) (replicate (size' - length (contents i0 file)) 0), length-replicate {A = ℕ} (size' - length (contents i0 file)) 0, full, over)

    count_is : length (data_blocks i0 file ++ b ∷ []) ≡ data_count format size'
    count_is = length_push (data_blocks i0 file) b ∙ omega (arith, e.counted, one_more_block format end.count size' over within)

    held : (k : ℕ) → k < length grown → slice_index grown k ≡ file_byte format new (data_blocks i0 file ++ b ∷ []) k
    held k l = elim (cases_lt k (length (contents i0 file))) [
      | inl m ↦
          let place : k / data_size format < length (data_blocks i0 file) = omega (arith, e.counted, below_count format end.count k (omega (arith, m, full))) in
          get_or_append_left (contents i0 file) (replicate (size' - length (contents i0 file)) 0) 0 k m
          ∙ w.lawful.holds.contents k m
          ∙ ap (λ (t : Format). file_byte t i0 (data_blocks i0 file) k) (sym f)
          ∙ sym (a.bytes (k / data_size format) (data_start format + k % data_size format) place (in_block format k) (behind_start format k))
          ∙ ap (λ (c : ℕ). byte_at new c (data_start format + k % data_size format)) (sym (get_or_append_left (data_blocks i0 file) (b ∷ []) 0 (k / data_size format) place))
      | inr m ↦
          let place : k / data_size format ≡ length (data_blocks i0 file) = omega (arith, e.counted, at_count format end.count k (omega (arith, m, full)) (omega (arith, l, size_is, within))) in
          get_or-append_right (contents i0 file) (replicate (size' - length (contents i0 file)) 0) (length (contents i0 file)) k 0 refl m
          ∙ get_or-replicate (size' - length (contents i0 file)) (k - length (contents i0 file)) 0 0 (omega (arith, l, m, size_is, full, over))
          ∙ sym (a.empty (data_start format + k % data_size format) (in_block format k) (behind_start format k))
          ∙ ap (λ (c : ℕ). byte_at new c (data_start format + k % data_size format)) (sym (ap (slice_index (data_blocks i0 file ++ b ∷ [])) place ∙ get_or_push (data_blocks i0 file) b 0 (length (data_blocks i0 file)) refl))
    ]

    pub writable_new : IsWritable new file (data_blocks i0 file ++ b ∷ []) a.extensions grown
    writable_new =
        writable_of new format file (data_blocks i0 file ++ b ∷ []) a.extensions grown
        (subst (Standing new format file (data_blocks i0 file ++ b ∷ []) a.extensions) (sym size_is) a.stands)
        (count_is ∙ ap (data_count format) (sym size_is)) a.fits held

    pub end_is : IsEnd new file (record { count = end.count + 1; holder = holder; last = b })
    end_is =
        let bl = data_blocks_are new file (data_blocks i0 file ++ b ∷ []) a.extensions grown writable_new.lawful in
        let ex = extension_blocks_are new file (data_blocks i0 file ++ b ∷ []) a.extensions grown writable_new.lawful in
        record {
          counted = omega (arith, e.counted, length_push (data_blocks i0 file) b, ap length bl);
          holder_is = a.holder_is ∙ ap (λ (xs : List ℕ). slice_index (file ∷ xs) (length xs)) (sym ex);
          last_is = sym (ap (λ (xs : List ℕ). slice_index xs (length xs - 1)) bl ∙ get_or_push (data_blocks i0 file) b 0 (length (data_blocks i0 file ++ b ∷ []) - 1) (omega (arith, length_push (data_blocks i0 file) b)));
        }

-- the whole contract of the call
pub record IsAppended (old : List ℕ) (format : Format) (file : ℕ) (end : End) (size : ℕ) (holder b : ℕ) (new : List ℕ) : Type 0 where
  pub grown : GrowsFile old file size new
  pub end_is : IsEnd new file (record { count = end.count + 1; holder = holder; last = b })
  pub bytes : contents new file ≡ contents old file ++ replicate (size - length (contents old file)) 0

module _ {i0 : List ℕ} {format : Format} {file : ℕ} {end : End} (w : WritableFile i0 file) (ok : IsSize (block_count i0)) (f : format ≡ format_of i0) (e : IsEnd i0 file end)
    {size : ℕ} {i1 i2 i3 i4 : List ℕ} {holder b : ℕ} (h : HasPointerRoom i0 file end.holder end.count holder i1) (n : IsNewBlock i1 b i2) (x : IsLengthened i2 format file holder end.last end.count b i3) (y : IsResized i3 format file holder b (end.count + 1) size i4)
    (full : length (contents i0 file) ≡ data_size format * end.count) (over : data_size format * end.count < size) (within : size ≤ data_size format * (end.count + 1)) where
  result : Appended i0 format file (data_blocks i0 file) (extension_blocks i0 file) b holder size i4
  result =
      appended i0 i1 i2 i3 i4 format file (data_blocks i0 file) (extension_blocks i0 file) (length (contents i0 file)) size holder b (room_of w ok f e h) n
      (subst (λ (c : ℕ). IsLengthened i2 format file holder (slice_index (data_blocks i0 file) (length (data_blocks i0 file) - 1)) c b i3) e.counted
      (subst (λ (c : ℕ). IsLengthened i2 format file holder c end.count b i3) e.last_is x))
      (subst (λ (c : ℕ). IsResized i3 format file holder b (c + 1) size i4) e.counted y)
      (λ t. full ∙ ap (λ (g : Format). data_size g * end.count) t ∙ ap (λ (c : ℕ). 488 * c) e.counted)
      (λ t. (omega (arith, over, e.counted, ap (λ (g : Format). data_size g * end.count) t), omega (arith, within, e.counted, ap (λ (g : Format). data_size g * (end.count + 1)) t)))
      (omega (arith, full, over))

  pub appended_call : IsAppended i0 format file end size holder b i4
  appended_call =
      let written = writable_new w ok f e result full over within in
      record {
        grown = grows_to i0 i4 file size (data_blocks i0 file ++ b ∷ []) result.extensions (contents i0 file ++ replicate (size - length (contents i0 file)) 0) written
            (size_is w ok f e result full over within) (omega (arith, full, over)) (result.stands.format_is ∙ f)
            (omega (arith, result.count, e.counted, one_more_cost format end.count size over within, ap (λ (t : Format). block_cost t size) f, ap₂ block_cost f (sym full)))
            result.leaves result.gains (take_at (data_blocks i0 file) (b ∷ []) (length (data_blocks i0 file)) refl) result.front result.keeps;
        end_is = end_is w ok f e result full over within;
        bytes = contents_are i4 file (data_blocks i0 file ++ b ∷ []) result.extensions (contents i0 file ++ replicate (size - length (contents i0 file)) 0) written.lawful;
      }
