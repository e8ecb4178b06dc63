-- A file with some of its data bytes overwritten, and one step of a walk that does so.
use Rattle.ados_data.proofs.Common.{◌≡◌, ◌≢◌, ℕ, ◌+◌, ◌-◌, ◌/◌, ◌%◌, ◌<◌, ◌≤◌, ◌⊎◌, inl, inr, List, ◌∷◌, length, slice_index, refl, sym, ap, ap₂, ◌∙◌, subst, arith, ◌*◌, ◌^◌, min, take, drop, cases_lt, cases_eq, take_all, length-take, length-drop, FILE_SIZE, FIRST_POINTER, NEXT_EXTENSION, Format, Ofs, Ffs, byte_at, long, block_sum, block_count, IsInside, IsSize, IsImage, format_of, SameBut, Within, OnlyLong, same_long, same_count, block_cost, data_count, data_size, data_start, AreApart, data_blocks, extension_blocks, contents, file_byte, LawfulFile, pointer_block, IsInUse, WritableFile, NoneFreeBelow, Leaves, GrowsFile, AtData, overlaid, data_end, KeepsUnnamed, long-below}
use Rattle.ados_data.proofs.Skeleton.{KeepsData, untouched_holder, untouched_data, skeleton_kept}
use Rattle.ados_data.proofs.Standing.{marks_stay, Owned, Standing, blocks_stay, standing_of, writable_of, format_kept, map_stays, use_stays, count_stays}
use Rattle.ados_data.proofs.Composing.{grows_to, grows_over, below_grown}
use Rattle.ados_data.proofs.Leaving.{gains_kept, gains_same, leaves_owned}
use Rattle.ados_data.proofs.Sizes.{same_block, in_front, behind_part, in_block, behind_start, in_count, few_bytes, part_bounds}
use Rattle.ados_data.proofs.Overlaid.{overlaid_before, overlaid_within, overlaid_behind, length-overlaid, overlaid_more}
use Rattle.ados_data.proofs.Spelled.{extension_blocks_are, contents_are}
use Rattle.ados_data.proofs.Grown.{put_end, keeps_put}
use Rattle.ados_data.proofs.Places.{data_is, header_is, byte_within, holder_of, readable}
use Rattle.ados_data.proofs.Reading.{holder_inside, block_is, block_inside, on_to_next, on_in_same}

module _ (old new : List ℕ) (format : Format) (file : ℕ) (blocks extensions : List ℕ) (size i low high : ℕ) (s : Standing old format file blocks extensions size) (within : i < length blocks) (fields : format ≡ Ofs → 24 ≤ low)
    (summed : format ≡ Ofs → block_sum new (slice_index blocks i) ≡ 0) (h : SameBut (AtData format (slice_index blocks i) low high) old new) where
  abbrev pub Put : ℕ → ℕ → Type 0
  Put c k = AtData format (slice_index blocks i) low high c k

  put_owner : (c k : ℕ) → Put c k → IsInUse old c × IsInside (block_count old) c
  put_owner c k at = (subst (IsInUse old) (sym at.0) (s.data_used i within), subst (IsInside (block_count old)) (sym at.0) (s.places.data_inside i within))

  pub put_owned : Owned Put old new
  put_owned = record { same = h; size = s.size_ok; owner = put_owner }

  header_beside : (q k : ℕ) → q ≤ length extensions → ¬ Put (slice_index (file ∷ extensions) q) k
  header_beside q k l at = s.places.apart q i l within at.0

  data_beside : (j k : ℕ) → j < length blocks → j ≢ i → ¬ Put (slice_index blocks j) k
  data_beside j k l ne at = elim (cases_lt j i) [
    | inl m ↦ s.places.data_once j i m within at.0
    | inr m ↦ s.places.data_once i j (omega (arith, m, ne)) l (sym at.0)
  ]

  -- the fields of the block itself
  field_beside : format ≡ Ofs → (k j : ℕ) → k / 4 ≡ j → j < 5 → ¬ Put (slice_index blocks i) k
  field_beside f k j m l (e, z) = omega (arith, m, l, z, fields f)

  pub stands_put : Standing new format file blocks extensions size
  stands_put = record {
    format_is = format_kept put_owned ∙ s.format_is;
    size_ok = subst IsSize (sym (blocks_stay put_owned)) s.size_ok;
    skeleton = skeleton_kept old new format file blocks extensions size s.skeleton
        (λ q l. untouched_holder old new (slice_index (file ∷ extensions) q) (λ k m. h.same_byte (slice_index (file ∷ extensions) q) k m (header_beside q k l)))
        (same_long Put old new h file FILE_SIZE (omega arith) (λ k e. header_beside 0 k (omega arith)))
        (same_long Put old new h file 4 (omega arith) (λ k e. header_beside 0 k (omega arith)))
        (λ f j l. elim (cases_eq j i) [
          | inr ne ↦ untouched_data old new (slice_index blocks j) (λ k m. h.same_byte (slice_index blocks j) k m (data_beside j k l ne))
          | inl e ↦ subst (λ (n : ℕ). KeepsData old new (slice_index blocks n)) (sym e) (record {
            longs = λ n m. same_long Put old new h (slice_index blocks i) n (omega arith) (λ k z. field_beside f k n z m);
            sum = λ z. summed f;
          })
        ]);
    places = subst (λ (n : ℕ). AreApart n file blocks extensions) (sym (blocks_stay put_owned)) s.places;
    map = map_stays put_owned s.map;
    headers_used = λ q l. use_stays put_owned (slice_index (file ∷ extensions) q) (s.places.headers_inside q l) (s.headers_used q l);
    data_used = λ j l. use_stays put_owned (slice_index blocks j) (s.places.data_inside j l) (s.data_used j l);
  }

  -- all other bytes
  pub put_other : (j k : ℕ) → j < length blocks → k < 512 → (format ≡ Ofs → 24 ≤ k) → (j ≡ i → (k < low) ⊎ (high ≤ k)) → byte_at new (slice_index blocks j) k ≡ byte_at old (slice_index blocks j) k
  put_other j k l m a side = elim (cases_eq j i) [
    | inr ne ↦ h.same_byte (slice_index blocks j) k m (data_beside j k l ne)
    | inl e ↦ h.same_byte (slice_index blocks j) k m (no (side e))
  ]
    where
      no : (k < low) ⊎ (high ≤ k) → ¬ Put (slice_index blocks j) k
      no n (z, inl at) = omega arith
      no _ (z, inr at) = omega (arith, a at.0, at.1)

  pub leaves_put : Leaves old file blocks extensions new
  leaves_put =
      leaves_owned file blocks extensions put_owned (λ c k o at. o.beside_data i within at.0) (λ k at. absurd (s.places.apart 0 i (omega arith) within at.0))
      (inl (λ k l. h.same_byte file k l (λ at. s.places.apart 0 i (omega arith) within at.0)))

-- ---- a part of a file overwritten

-- the effect of one part on a file
pub record IsPut (old : List ℕ) (file : ℕ) (at : ℕ) (ys : List ℕ) (new : List ℕ) : Type 0 where
  pub grown : GrowsFile old file (length (contents old file)) new
  pub extensions : extension_blocks new file ≡ extension_blocks old file
  pub bytes : contents new file ≡ overlaid (contents old file) at ys

module _ (old new : List ℕ) (format : Format) (file : ℕ) (w : WritableFile old file) (ok : IsSize (block_count old)) (f : format ≡ format_of old) (at : ℕ) (ys : List ℕ) (block : ℕ)
    (fits : at % data_size format + length ys ≤ data_size format) (within : at + length ys ≤ length (contents old file)) (some : at < length (contents old file)) (here : block ≡ slice_index (data_blocks old file) (at / data_size format))
    (put : (k : ℕ) → k < length ys → byte_at new block (data_start format + at % data_size format + k) ≡ slice_index ys k) (summed : format ≡ Ofs → block_sum new block ≡ 0)
    (h : SameBut (AtData format block (data_start format + at % data_size format) (data_start format + at % data_size format + length ys)) old new) where
  s : Standing old format file (data_blocks old file) (extension_blocks old file) (length (contents old file))
  s = subst (λ (t : Format). Standing old t file (data_blocks old file) (extension_blocks old file) (length (contents old file))) (sym f) (standing_of old file (data_blocks old file) (extension_blocks old file) (contents old file) ok w)

  fits_format : length (data_blocks old file) ≡ data_count format (length (contents old file))
  fits_format = w.lawful.data_fits ∙ ap (λ (t : Format). data_count t (length (contents old file))) (sym f)

  within_blocks : at / data_size format < length (data_blocks old file)
  within_blocks = omega (arith, fits_format, in_count format at (length (contents old file)) some)

  fields : format ≡ Ofs → 24 ≤ data_start format + at % data_size format
  fields e = behind_start format at e

  put_sum : format ≡ Ofs → block_sum new (slice_index (data_blocks old file) (at / data_size format)) ≡ 0
  put_sum e = ap (block_sum new) (sym here) ∙ summed e

  put_rest : SameBut (AtData format (slice_index (data_blocks old file) (at / data_size format)) (data_start format + at % data_size format) (data_start format + at % data_size format + length ys)) old new
  put_rest = subst (λ (b : ℕ). SameBut (AtData format b (data_start format + at % data_size format) (data_start format + at % data_size format + length ys)) old new) here h

  stands : Standing new format file (data_blocks old file) (extension_blocks old file) (length (contents old file))
  stands = stands_put old new format file (data_blocks old file) (extension_blocks old file) (length (contents old file)) (at / data_size format) (data_start format + at % data_size format) (data_start format + at % data_size format + length ys) s within_blocks fields put_sum put_rest

  abbrev written_bytes : List ℕ
  written_bytes = overlaid (contents old file) at ys

  long_enough : at ≤ length (contents old file)
  long_enough = omega (arith, some)

  length-bytes : length written_bytes ≡ length (contents old file)
  length-bytes = length-overlaid (contents old file) at ys long_enough within

  -- a byte that is not written
  other : (k : ℕ) → k < length (contents old file) → (k / data_size format ≡ at / data_size format → (data_start format + k % data_size format < data_start format + at % data_size format) ⊎ (data_start format + at % data_size format + length ys ≤ data_start format + k % data_size format)) → slice_index (contents old file) k ≡ file_byte format new (data_blocks old file) k
  other k l side =
      w.lawful.holds.contents k l
      ∙ ap (λ (t : Format). file_byte t old (data_blocks old file) k) (sym f)
      ∙ sym (put_other old new format file (data_blocks old file) (extension_blocks old file) (length (contents old file)) (at / data_size format) (data_start format + at % data_size format) (data_start format + at % data_size format + length ys) s within_blocks fields put_sum put_rest
      (k / data_size format) (data_start format + k % data_size format) (omega (arith, fits_format, in_count format k (length (contents old file)) l)) (in_block format k) (behind_start format k) side)

  held : (k : ℕ) → k < length written_bytes → slice_index written_bytes k ≡ file_byte format new (data_blocks old file) k
  held k l = elim (cases_lt k at) [
    | inl a ↦ overlaid_before (contents old file) at ys long_enough k a ∙ other k (omega (arith, l, length-bytes)) (λ e. inl (omega (arith, in_front format at k a e)))
    | inr a ↦ elim (cases_lt k (at + length ys)) [
      | inl b ↦
          let same = same_block format at (k - at) (omega (arith, fits, b)) in
          let there : at + (k - at) ≡ k = omega arith in
          overlaid_within (contents old file) at ys long_enough k a b
          ∙ sym (put (k - at) (omega arith))
          ∙ ap₂ (λ (c n : ℕ). byte_at new c n) (here ∙ ap (slice_index (data_blocks old file)) (sym same.0 ∙ ap (λ (n : ℕ). n / data_size format) there)) (omega (arith, same.1, ap (λ (n : ℕ). n % data_size format) there))
      | inr b ↦ overlaid_behind (contents old file) at ys long_enough k b ∙ other k (omega (arith, l, length-bytes)) (λ e. inr (omega (arith, behind_part format at (length ys) k b e)))
    ]
  ]

  reached : data_start format + at % data_size format + length ys ≤ data_end format (long new file FILE_SIZE) (at / data_size format)
  reached = subst (λ (n : ℕ). data_start format + at % data_size format + length ys ≤ data_end format n (at / data_size format)) (sym stands.skeleton.size_field) (put_end format at (length ys) (length (contents old file)) fits within)

  kept : KeepsUnnamed old file (data_blocks old file) (extension_blocks old file) new (data_blocks old file) (extension_blocks old file)
  kept = keeps_put old format file (data_blocks old file) (extension_blocks old file) (length (contents old file)) (at / data_size format) (data_start format + at % data_size format) (data_start format + at % data_size format + length ys) s within_blocks new put_rest reached

  pub is_put : IsPut old file at ys new
  is_put =
      let written = writable_of new format file (data_blocks old file) (extension_blocks old file) written_bytes
      (subst (Standing new format file (data_blocks old file) (extension_blocks old file)) (sym length-bytes) stands) (fits_format ∙ ap (data_count format) (sym length-bytes)) w.lawful.extensions_fit held in
      record {
        grown = grows_to old new file (length (contents old file)) (data_blocks old file) (extension_blocks old file) written_bytes written length-bytes (omega arith) (stands.format_is ∙ f)
            (ap (λ (n : ℕ). n + block_cost (format_of old) (length (contents old file))) (count_stays (put_owned old new format file (data_blocks old file) (extension_blocks old file) (length (contents old file)) (at / data_size format) (data_start format + at % data_size format) (data_start format + at % data_size format + length ys) s within_blocks fields put_sum put_rest)))
            (leaves_put old new format file (data_blocks old file) (extension_blocks old file) (length (contents old file)) (at / data_size format) (data_start format + at % data_size format) (data_start format + at % data_size format + length ys) s within_blocks fields put_sum put_rest)
            (gains_kept old old new file (data_blocks old file) (extension_blocks old file) (data_blocks old file) (extension_blocks old file) refl (marks_stay (put_owned old new format file (data_blocks old file) (extension_blocks old file) (length (contents old file)) (at / data_size format) (data_start format + at % data_size format) (data_start format + at % data_size format + length ys) s within_blocks fields put_sum put_rest)) (gains_same old file (data_blocks old file) (extension_blocks old file)))
            (take_all (length (data_blocks old file)) (data_blocks old file) (omega arith)) (take_all (length (extension_blocks old file)) (extension_blocks old file) (omega arith)) kept;
        extensions = extension_blocks_are new file (data_blocks old file) (extension_blocks old file) written_bytes written.lawful;
        bytes = contents_are new file (data_blocks old file) (extension_blocks old file) written_bytes written.lawful;
      }

-- a file's size is below 2^32
pub size_below : (image : List ℕ) (file : ℕ) → LawfulFile image file → IsImage image → length (contents image file) < 2 ^ 32
size_below image file s i = omega (arith, s.holds.size, long-below image file FILE_SIZE i)

-- the data of a block, overwritten from its byte `low`
pub record IsWritten (format : Format) (block low : ℕ) (ys old new : List ℕ) : Type 0 where
  pub put : (k : ℕ) → k < length ys → byte_at new block (low + k) ≡ slice_index ys k
  pub sum : format ≡ Ofs → block_sum new block ≡ 0
  pub rest : SameBut (AtData format block low (low + length ys)) old new

-- in OFS the checksum of the block is set anew; in FFS nothing changes
abbrev pub IsSettled : Format → ℕ → List ℕ → List ℕ → Type 0
IsSettled format block old new =
    ((format ≡ Ofs) × (image : List ℕ) × (new ≡ image) × (block_sum image block ≡ 0) × OnlyLong block 5 old image) ⊎ ((format ≡ Ffs) × (new ≡ old))

-- the bytes, and then the checksum
pub written_settled : {format : Format} {block : ℕ} (low : ℕ) (ys : List ℕ) {old mid new : List ℕ} → (format ≡ Ofs → 24 ≤ low) → low + length ys ≤ 512 → ((k : ℕ) → k < length ys → byte_at mid block (low + k) ≡ slice_index ys k) → SameBut (Within block low (low + length ys)) old mid
    → IsSettled format block mid new → IsWritten format block low ys old new
written_settled {format} {block} low ys {old} {mid} behind room put first (inl (is, image, e, sum, second)) = subst (IsWritten format block low ys old) (sym e) (record {
  put = λ k l. second.same_byte block (low + k) (omega arith) (λ at. omega (arith, at.1, behind is)) ∙ put k l;
  sum = λ f. sum;
  rest = record {
    same_length = second.same_length ∙ first.same_length;
    same_byte = λ c k l un. second.same_byte c k l (λ at. un (at.0, inr (is, at.1))) ∙ first.same_byte c k l (λ at. un (at.0, inl (at.1, at.2)));
  };
})
written_settled {format} {block} low ys {old} {mid} behind room put first (inr (is, e)) = subst (IsWritten format block low ys old) (sym e) (record {
  put = put;
  sum = λ f. let no : Ffs ≡ Ofs = sym is ∙ f in cc;
  rest = record { same_length = first.same_length; same_byte = λ c k l un. first.same_byte c k l (λ at. un (at.0, inl (at.1, at.2))) };
})

-- the data of an OFS block follow its fields
pub past_fields : (format : Format) (n : ℕ) → format ≡ Ofs → 24 ≤ data_start format + n
past_fields format n e = grind arith

-- a turn of the walk: `done` of all bytes are written over the bytes xs, and the next part is in the block of byte pos + done
pub record IsTurn (start xs i0 : List ℕ) (format : Format) (file size pos : ℕ) (all : List ℕ) (done part room holder : ℕ) : Type 0 where
  pub grown : GrowsFile start file size i0
  pub size_ok : IsSize (block_count start)
  pub format_is : format ≡ format_of start
  pub room_is : room ≡ data_size format
  pub whole : length xs ≡ size
  pub fits : pos + length all ≤ size
  pub left : done < length all
  pub written : contents i0 file ≡ overlaid xs pos (take done all)
  pub part_is : part ≡ min (room - (pos + done) % room) (length all - done)
  pub holder_is : holder ≡ pointer_block i0 file ((pos + done) / room / 72)

module _ {start xs i0 : List ℕ} {format : Format} {file size pos : ℕ} {all : List ℕ} {done part room holder : ℕ} (t : IsTurn start xs i0 format file size pos all done part room holder) where
  pub at_within : pos + done < length (contents i0 file)
  at_within = omega (arith, t.grown.sized, t.fits, t.left)

  format_here : format ≡ format_of i0
  format_here = t.format_is ∙ sym t.grown.format

  room_here : room ≡ data_size (format_of i0)
  room_here = t.room_is ∙ ap data_size format_here

  pub bounds : (0 < part) × ((pos + done) % room + part ≤ room) × (done + part ≤ length all)
  bounds = part_bounds room (pos + done) done (length all) part (omega (arith, t.room_is, few_bytes format)) t.left t.part_is

  pub part_within : pos + done + part ≤ length (contents i0 file)
  part_within = omega (arith, bounds, t.grown.sized, t.fits)

  pub holder_is_inside : holder < block_count i0
  holder_is_inside = holder_inside i0 file (readable i0 file t.grown.writable.lawful) room room_here (pos + done) holder at_within t.holder_is

  module _ {block : ℕ} (b : block ≡ long i0 holder (FIRST_POINTER - (pos + done) / room % 72)) where
    pub block_is_inside : block < block_count i0
    block_is_inside = block_inside i0 file (readable i0 file t.grown.writable.lawful) room room_here (pos + done) holder block at_within t.holder_is b

    place : (pos + done) / room ≡ (pos + done) / data_size format
    place = ap (λ (n : ℕ). (pos + done) / n) t.room_is

    here : block ≡ slice_index (data_blocks i0 file) ((pos + done) / data_size format)
    here =
        let there : (pos + done) / room ≡ (pos + done) / data_size (format_of i0) = ap (λ (n : ℕ). (pos + done) / n) room_here in
        let within : (pos + done) / room < length (data_blocks i0 file) = omega (arith, there, byte_within i0 file (pos + done) at_within) in
        block_is i0 file (readable i0 file t.grown.writable.lawful) room room_here (pos + done) holder block t.holder_is b
        ∙ data_is i0 file ((pos + done) / room) within
        ∙ ap (slice_index (data_blocks i0 file)) place

    module _ {i1 ys : List ℕ} (ys_is : ys ≡ take part (drop done all)) (x : IsWritten format block (data_start format + (pos + done) % room) ys i0 i1) where
      count_ys : length ys ≡ part
      count_ys = ap length ys_is ∙ omega (arith, length-take part (drop done all), length-drop done all, bounds)

      rest : (pos + done) % room ≡ (pos + done) % data_size format
      rest = ap (λ (n : ℕ). (pos + done) % n) t.room_is

      pub turn : IsPut i0 file (pos + done) ys i1
      turn =
          is_put i0 i1 format file t.grown.writable (subst IsSize (ap (λ (n : ℕ). n / 512) (sym t.grown.leaves.same_length)) t.size_ok) format_here (pos + done) ys block (omega (arith, bounds, rest, t.room_is, count_ys)) (omega (arith, part_within, count_ys)) at_within here
          (λ k l. ap (λ (n : ℕ). byte_at i1 block (data_start format + n + k)) (sym rest) ∙ x.put k l) x.sum
          (subst (λ (n : ℕ). SameBut (AtData format block (data_start format + n) (data_start format + n + length ys)) i0 i1) rest x.rest)

      pub written_more : contents i1 file ≡ overlaid xs pos (take (done + part) all)
      written_more =
          turn.bytes
          ∙ ap (λ (zs : List ℕ). overlaid zs (pos + done) ys) t.written
          ∙ ap (overlaid (overlaid xs pos (take done all)) (pos + done)) ys_is
          ∙ overlaid_more xs pos all done part (omega (arith, t.fits, t.whole)) bounds.2

      -- the growth so far and this step
      pub grown_on : WritableFile start file → GrowsFile start file size i1
      grown_on u = grows_over u t.grown turn.grown

      pub bound_on : {from : ℕ} → NoneFreeBelow i0 from → NoneFreeBelow i1 from
      bound_on {from} = below_grown from turn.grown

      room_new : room ≡ data_size (format_of i1)
      room_new = room_here ∙ ap data_size (sym turn.grown.format)

      -- the current pointer block is the same in the new image
      holder_new : holder ≡ pointer_block i1 file ((pos + done) / room / 72)
      holder_new =
          let there : (pos + done) / room ≡ (pos + done) / data_size (format_of i0) = ap (λ (n : ℕ). (pos + done) / n) room_here in
          let old : (pos + done) / room / 72 ≤ length (extension_blocks i0 file) = omega (arith, ap (λ (n : ℕ). n / 72) there, holder_of i0 file ((pos + done) / data_size (format_of i0)) (byte_within i0 file (pos + done) at_within)) in
          t.holder_is ∙ header_is i0 file ((pos + done) / room / 72) old
          ∙ ap (λ (xs : List ℕ). slice_index (file ∷ xs) ((pos + done) / room / 72)) (sym turn.extensions)
          ∙ sym (header_is i1 file ((pos + done) / room / 72) (omega (arith, old, ap length turn.extensions)))

      pub holder_inside_new : holder < block_count i1
      holder_inside_new = omega (arith, holder_is_inside, same_count (AtData format block (data_start format + (pos + done) % room) (data_start format + (pos + done) % room + length ys)) i0 i1 x.rest)

      next_place : pos + done + part ≡ pos + (done + part)
      next_place = omega arith

      pub holder_next : {next : ℕ} → (pos + done + part) % (72 * room) ≡ 0 → next ≡ long i1 holder NEXT_EXTENSION → next ≡ pointer_block i1 file ((pos + (done + part)) / room / 72)
      holder_next {next} z n =
          on_to_next i1 file (readable i1 file turn.grown.writable.lawful) room room_new (pos + done) part holder next bounds.0 bounds.1 z holder_new n ∙ ap (λ (k : ℕ). pointer_block i1 file (k / room / 72)) next_place

      pub holder_same : (pos + done + part) % (72 * room) ≢ 0 → holder ≡ pointer_block i1 file ((pos + (done + part)) / room / 72)
      holder_same z = on_in_same i1 file (readable i1 file turn.grown.writable.lawful) room room_new (pos + done) part holder bounds.1 z holder_new ∙ ap (λ (k : ℕ). pointer_block i1 file (k / room / 72)) next_place
