-- A file made longer within its last data block.
use Rattle.ados_data.proofs.Common.{◌≡◌, ◌≢◌, ℕ, ◌+◌, ◌-◌, ◌*◌, ◌/◌, ◌%◌, ◌<◌, ◌≤◌, inl, inr, List, ◌∷◌, ◌++◌, length, take, slice_index, refl, sym, ap, ap₂, ◌∙◌, subst, arith, cases_lt, FILE_SIZE, Format, Ofs, byte_at, bytes_at, long, block_count, IsSize, free_bit_count, format_of, byte-bytes_at, block_cost, data_count, data_size, data_start, extension_count, file_byte, data_blocks, extension_blocks, contents, IsResized, take_all, length-append, get_or_append_left, get_or-append_right, mod-lt, End, WritableFile, IsEnd, IsLonger, GrowsFile}
use Rattle.ados_data.proofs.Standing.{Standing, standing_of, writable_of, count_stays, marks_stay}
use Rattle.ados_data.proofs.Sizes.{few_bytes, whole_block, in_block, behind_start, filled_size, filled_place, in_count, more_blocks}
use Rattle.ados_data.proofs.Overlaid.{longer_filled}
use Rattle.ados_data.proofs.Reading.{length-bytes_at}
use Rattle.ados_data.proofs.Composing.{grows_to}
use Rattle.ados_data.proofs.Leaving.{leaves_resized, gains_same, gains_kept}
use Rattle.ados_data.proofs.Growing.{stands_resized, resized_byte, resized_owned}
use Rattle.ados_data.proofs.Spelled.{data_blocks_are, extension_blocks_are, contents_are}
use Rattle.ados_data.proofs.Grown.{keeps_resized}

-- the file got the bytes after its end in its last data block, and has the same end
pub record IsFilled (old : List ℕ) (format : Format) (file : ℕ) (end : End) (size : ℕ) (new : List ℕ) : Type 0 where
  pub grown : GrowsFile old file size new
  pub end_is : IsEnd new file end
  pub bytes : IsLonger format (contents old file) size (contents new file)

module _ (i0 i1 : List ℕ) (format : Format) (file : ℕ) (end : End) (part : ℕ) (w : WritableFile i0 file) (ok : IsSize (block_count i0)) (f : format ≡ format_of i0) (e : IsEnd i0 file end)
    (started : length (contents i0 file) % data_size format ≢ 0) (fits : length (contents i0 file) % data_size format + part ≤ data_size format)
    (y : IsResized i0 format file end.holder end.last end.count (length (contents i0 file) + part) i1) where
  abbrev old : ℕ
  old = length (contents i0 file)

  abbrev blocks : List ℕ
  blocks = data_blocks i0 file

  abbrev extensions : List ℕ
  extensions = extension_blocks i0 file

  s0 : Standing i0 format file blocks extensions old
  s0 = subst (λ (t : Format). Standing i0 t file blocks extensions old) (sym f) (standing_of i0 file blocks extensions (contents i0 file) ok w)

  count_is : length blocks ≡ data_count format old
  count_is = w.lawful.data_fits ∙ ap (λ (t : Format). data_count t old) (sym f)

  sizes : (0 < length blocks) × (length blocks - 1 ≡ old / data_size format) × (data_count format (old + part) ≡ length blocks) × (format ≡ Ofs → length blocks ≡ (old + part + 487) / 488) × (format ≡ Ofs → 488 * (length blocks - 1) ≤ old)
  sizes = filled_size format old part (length blocks) count_is started fits

  y' : IsResized i0 format file (slice_index (file ∷ extensions) (length extensions)) (slice_index blocks (length blocks - 1)) (length blocks) (old + part) i1
  y' =
      subst (λ (c : ℕ). IsResized i0 format file (slice_index (file ∷ extensions) (length extensions)) (slice_index blocks (length blocks - 1)) c (old + part) i1) e.counted
      (subst (λ (c : ℕ). IsResized i0 format file (slice_index (file ∷ extensions) (length extensions)) c end.count (old + part) i1) e.last_is
      (subst (λ (c : ℕ). IsResized i0 format file c end.last end.count (old + part) i1) e.holder_is y))

  s1 : Standing i1 format file blocks extensions (old + part)
  s1 =
      subst (λ (xs : List ℕ). Standing i1 format file xs extensions (old + part)) (take_all (length blocks) blocks (omega arith))
      (subst (λ (xs : List ℕ). Standing i1 format file (take (length blocks) blocks) xs (old + part)) (take_all (length extensions) extensions (omega arith))
      (stands_resized i0 i1 format file blocks extensions old (length blocks) (length extensions) (old + part) s0 y' (omega arith) (omega arith) w.lawful.extensions_fit sizes.3 sizes.4))

  -- the bytes after the end
  abbrev behind : List ℕ
  behind = bytes_at i0 (slice_index blocks (old / data_size format)) (data_start format + old % data_size format) part

  room : data_start format + old % data_size format + part ≤ 512
  room = omega (arith, fits, whole_block format)

  inside : slice_index blocks (old / data_size format) < block_count i0
  inside = (w.lawful.places.data_inside (old / data_size format) (omega (arith, sizes.0, sizes.1))).1

  length-behind : length behind ≡ part
  length-behind = length-bytes_at i0 (slice_index blocks (old / data_size format)) (data_start format + old % data_size format) part inside room

  abbrev filled : List ℕ
  filled = contents i0 file ++ behind

  length-filled : length filled ≡ old + part
  length-filled = length-append (contents i0 file) behind ∙ ap (λ (n : ℕ). old + n) length-behind

  -- the size changes, and no byte of the data
  later : (i k : ℕ) → i < length blocks → k < 512 → (format ≡ Ofs → 24 ≤ k) → byte_at i1 (slice_index blocks i) k ≡ byte_at i0 (slice_index blocks i) k
  later = resized_byte i0 i1 format file blocks extensions old (length blocks) (length extensions) (old + part) s0 y' (omega arith) (omega arith)

  place_in : (k : ℕ) → k < old + part → k / data_size format < length blocks
  place_in k l = omega (arith, sizes.2, in_count format k (old + part) l)

  held : (k : ℕ) → k < length filled → slice_index filled k ≡ file_byte format i1 blocks k
  held k l = elim (cases_lt k old) [
    | inl m ↦
        get_or_append_left (contents i0 file) behind 0 k m
        ∙ w.lawful.holds.contents k m
        ∙ ap (λ (t : Format). file_byte t i0 blocks k) (sym f)
        ∙ sym (later (k / data_size format) (data_start format + k % data_size format) (place_in k (omega arith)) (in_block format k) (behind_start format k))
    | inr m ↦
        let small : k < old + part = omega (arith, l, length-filled) in
        let there = filled_place format old part k m small fits in
        get_or-append_right (contents i0 file) behind old k 0 refl m
        ∙ byte-bytes_at i0 (slice_index blocks (old / data_size format)) (data_start format + old % data_size format) part (k - old) (omega (arith, small, m))
        ∙ ap₂ (λ (b n : ℕ). byte_at i0 b n) (ap (slice_index blocks) (sym there.0)) (omega (arith, there.1))
        ∙ sym (later (k / data_size format) (data_start format + k % data_size format) (place_in k small) (in_block format k) (behind_start format k))
  ]

  within : old + part ≤ data_size format * data_count format old
  within = elim (cases_lt (data_size format * data_count format old) (old + part)) [
    | inl l ↦ absurd (omega (arith, sizes.2, count_is, below_count_more l))
    | inr l ↦ l
  ]
    where
      below_count_more : data_size format * data_count format old < old + part → data_count format old < data_count format (old + part)
      below_count_more l = more_blocks format (data_count format old) (old + part) l

  pub is_filled : IsFilled i0 format file end (old + part) i1
  is_filled =
      let written = writable_of i1 format file blocks extensions filled (subst (Standing i1 format file blocks extensions) (sym length-filled) s1) (sym sizes.2 ∙ ap (data_count format) (sym length-filled)) w.lawful.extensions_fit held in
      let bl = data_blocks_are i1 file blocks extensions filled written.lawful in
      let ex = extension_blocks_are i1 file blocks extensions filled written.lawful in
      let is = contents_are i1 file blocks extensions filled written.lawful in
      let costs : block_cost format (old + part) ≡ block_cost format old = ap (λ (n : ℕ). n + extension_count n) (sizes.2 ∙ count_is) in
      record {
        grown = grows_to i0 i1 file (old + part) blocks extensions filled written length-filled (omega arith) (s1.format_is ∙ f)
            (subst (λ (t : Format). free_bit_count i1 + block_cost t (old + part) ≡ free_bit_count i0 + block_cost t old) f (ap₂ (λ (a b : ℕ). a + b) (count_stays (resized_owned i0 i1 format file blocks extensions old (length blocks) (length extensions) (old + part) s0 y' (omega arith) (omega arith))) costs))
            (leaves_resized i0 i1 format file blocks extensions old (length blocks) (length extensions) (old + part) s0 y' (omega arith) (omega arith))
            (gains_kept i0 i0 i1 file blocks extensions blocks extensions refl (marks_stay (resized_owned i0 i1 format file blocks extensions old (length blocks) (length extensions) (old + part) s0 y' (omega arith) (omega arith))) (gains_same i0 file blocks extensions))
            (take_all (length blocks) blocks (omega arith)) (take_all (length extensions) extensions (omega arith)) (keeps_resized i0 i1 format file blocks extensions old (old + part) s0 sizes.0 y');
        end_is = record {
          counted = e.counted ∙ sym (ap length bl);
          holder_is = e.holder_is ∙ sym (ap (λ (xs : List ℕ). slice_index (file ∷ xs) (length xs)) ex);
          last_is = e.last_is ∙ sym (ap (λ (xs : List ℕ). slice_index xs (length xs - 1)) bl);
        };
        bytes = longer_filled format (contents i0 file) behind (contents i1 file) (old + part) is (ap length is ∙ length-filled) within;
      }

-- the same with the numbers of a call
module _ {i0 i1 : List ℕ} {format : Format} {file : ℕ} {end : End} {part size room : ℕ} (w : WritableFile i0 file) (ok : IsSize (block_count i0)) (f : format ≡ format_of i0) (e : IsEnd i0 file end)
    (room_is : room ≡ data_size format) (size_is : size ≡ long i0 file FILE_SIZE) (started : size % room ≢ 0) (fits : part ≤ room - size % room)
    (y : IsResized i0 format file end.holder end.last end.count (size + part) i1) where
  size_here : size ≡ length (contents i0 file)
  size_here = size_is ∙ w.lawful.holds.size

  from_here : size % room ≡ length (contents i0 file) % data_size format
  from_here = ap₂ (λ (a b : ℕ). a % b) size_here room_is

  small : size % room < room
  small = mod-lt size (omega (arith, room_is, few_bytes format))

  pub filled_call : IsFilled i0 format file end (size + part) i1
  filled_call =
      subst (λ (n : ℕ). IsFilled i0 format file end (n + part) i1) (sym size_here)
      (is_filled i0 i1 format file end part w ok f e
      (λ z. started (from_here ∙ z)) (omega (arith, from_here, room_is, small, fits))
      (subst (λ (n : ℕ). IsResized i0 format file end.holder end.last end.count (n + part) i1) size_here y))

-- ---- the premises of the calls

module _ {i0 : List ℕ} {file : ℕ} {end : End} (w : WritableFile i0 file) (e : IsEnd i0 file end) where
  pub end_apart : 0 < end.count → (end.last ≢ end.holder) × (end.last ≢ file)
  end_apart l = (
    (λ z. w.lawful.places.apart (length (extension_blocks i0 file)) (length (data_blocks i0 file) - 1) (omega arith) (omega (arith, l, e.counted)) (sym e.holder_is ∙ sym z ∙ e.last_is)),
    (λ z. w.lawful.places.apart 0 (length (data_blocks i0 file) - 1) (omega arith) (omega (arith, l, e.counted)) (sym z ∙ e.last_is)),
  )
