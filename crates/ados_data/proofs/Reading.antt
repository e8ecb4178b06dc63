-- A part of a data block is a part of the file, and a walk over such parts.
use Rattle.ados_data.proofs.Common.{◌≡◌, ℕ, ◌+◌, ◌-◌, ◌*◌, ◌/◌, ◌%◌, ◌<◌, ◌≤◌, ◌++◌, List, length, take, drop, slice_index, sym, ap, ap₂, ◌∙◌, arith, ◌≢◌, suc, subst, ext_get_or, get_or-take, get_or-drop, length-take, length-drop, take_at, drop_at, drop-drop, drop-take, take-take, append_assoc, Format, byte_at, bytes_at, block_count, long, format_of, data_size, data_start, data_block, contents, ReadableFile, pointer_block, byte-bytes_at, FIRST_POINTER, NEXT_EXTENSION}
use Rattle.std.proofs.Math.Seq.{take-add}
use borrow.Rule.Slice.PartMut.{put_mid}
use Rattle.ados_data.proofs.Sizes.{same_block, whole_block, next_holder, same_holder}
use Rattle.ados_data.proofs.Places.{data_is, byte_is, byte_within, holder_of}

pub length-bytes_at : (image : List ℕ) (b i n : ℕ) → b < block_count image → i + n ≤ 512 → length (bytes_at image b i n) ≡ n
unfolding bytes_at
length-bytes_at image b i n l h = omega (arith, length-take n (drop (512 * b + i) image), length-drop (512 * b + i) image)

module _ (image : List ℕ) (file : ℕ) where
  -- a byte of a file, in its data block
  pub contents-at : (k : ℕ) → k < length (contents image file) → slice_index (contents image file) k ≡ byte_at image (data_block image file (k / data_size (format_of image))) (data_start (format_of image) + k % data_size (format_of image))
  contents-at k l =
      byte_is image file k l
      ∙ ap (λ (b : ℕ). byte_at image b (data_start (format_of image) + k % data_size (format_of image))) (sym (data_is image file (k / data_size (format_of image)) (byte_within image file k l)))

  pub part_is : (at part i from : ℕ) → at / data_size (format_of image) ≡ i → at % data_size (format_of image) ≡ from → from + part ≤ data_size (format_of image) → at + part ≤ length (contents image file) → data_block image file i < block_count image →
      take part (drop from (bytes_at image (data_block image file i) (data_start (format_of image)) (data_size (format_of image)))) ≡ take part (drop at (contents image file))
  part_is at part i from quotient remainder fits within inside =
      let D = data_size (format_of image) in
      let H = data_start (format_of image) in
      let xs = bytes_at image (data_block image file i) H D in
      let room : length xs ≡ D = length-bytes_at image (data_block image file i) H D inside (omega (arith, whole_block (format_of image))) in
      let left : length (take part (drop from xs)) ≡ part = omega (arith, length-take part (drop from xs), length-drop from xs, room, fits) in
      ext_get_or 0 (take part (drop from xs)) (take part (drop at (contents image file)))
      (omega (arith, left, length-take part (drop at (contents image file)), length-drop at (contents image file), within))
      (λ j l.
      let small : j < part = omega (arith, l, left) in
      let same = same_block (format_of image) at j (omega (arith, small, fits, remainder)) in
      get_or-take part (drop from xs) j 0 small ∙ get_or-drop from xs j 0
      ∙ byte-bytes_at image (data_block image file i) H D (from + j) (omega (arith, small, fits))
      ∙ ap₂ (λ (b k : ℕ). byte_at image (data_block image file b) k) (sym quotient ∙ sym same.0) (omega (arith, same.1, remainder))
      ∙ sym (contents-at (at + j) (omega (arith, small, within)))
      ∙ sym (get_or-take part (drop at (contents image file)) j 0 small ∙ get_or-drop at (contents image file) j 0))

-- a list with its first elements overwritten, and then one more part
pub copied_more : (xs buffer w : List ℕ) (done part : ℕ) → done + part ≤ length buffer → done + part ≤ length xs → w ≡ take part (drop done xs) → put_mid done part (take done xs ++ drop done buffer) w ≡ take (done + part) xs ++ drop (done + part) buffer
copied_more xs buffer w done part h l e =
    let front : length (take done xs) ≡ done = omega (arith, length-take done xs) in
    let behind : drop part (drop done (take done xs ++ drop done buffer)) ≡ drop (done + part) buffer = ap (drop part) (drop_at (take done xs) (drop done buffer) done front) ∙ drop-drop part done buffer in
    ap₂ (λ (a b : List ℕ). a ++ b) (take_at (take done xs) (drop done buffer) done front) (ap₂ (λ (a b : List ℕ). a ++ b) e behind)
    ∙ sym (append_assoc (take done xs) (take part (drop done xs)) (drop (done + part) buffer))
    ∙ ap (λ (a : List ℕ). a ++ drop (done + part) buffer) (sym (take-add done part xs))

-- the bytes of a block from the start of its data
pub data_of_block : (image : List ℕ) (b : ℕ) (format : Format) (xs : List ℕ) (start : ℕ) → xs ≡ bytes_at image b 0 512 → length xs ≡ 512 → start ≡ data_start format → take (length xs - start) (drop start xs) ≡ bytes_at image b (data_start format) (data_size format)
unfolding bytes_at
data_of_block image b format xs start e l s =
    let count : length xs - start ≡ data_size format = omega (arith, l, s, whole_block format) in
    let here : start + data_size format ≡ 512 = omega (arith, s, whole_block format) in
    let zero_offset : 512 * b + 0 + start ≡ 512 * b + data_start format = omega (arith, s) in
    ap₂ (λ (n : ℕ) (ys : List ℕ). take n (drop start ys)) count e
    ∙ ap (λ (n : ℕ). take (data_size format) (drop start (take n (drop (512 * b + 0) image)))) (sym here)
    ∙ ap (take (data_size format)) (drop-take start (data_size format) (drop (512 * b + 0) image) ∙ ap (take (data_size format)) (drop-drop start (512 * b + 0) image ∙ ap (λ (n : ℕ). drop n image) zero_offset))
    ∙ take-take (data_size format) (data_size format) (drop (512 * b + data_start format) image) (omega arith)

module _ (image : List ℕ) (file : ℕ) (s : ReadableFile image file) (room : ℕ) (room_is : room ≡ data_size (format_of image)) where
  -- the pointer block of a byte is inside the volume
  pub holder_inside : (at holder : ℕ) → at < length (contents image file) → holder ≡ pointer_block image file (at / room / 72) → holder < block_count image
  holder_inside at holder l e =
      let place : at / room ≡ at / data_size (format_of image) = ap (λ (n : ℕ). at / n) room_is in
      let here : pointer_block image file (at / room / 72) ≡ pointer_block image file (at / data_size (format_of image) / 72) = ap (λ (n : ℕ). pointer_block image file (n / 72)) place in
      omega (arith, e, here, s.headers_inside (at / data_size (format_of image) / 72) (holder_of image file (at / data_size (format_of image)) (byte_within image file at l)))

  -- the data block of a byte, by its pointer
  pub block_is : (at holder block : ℕ) → holder ≡ pointer_block image file (at / room / 72) → block ≡ long image holder (FIRST_POINTER - at / room % 72) → block ≡ data_block image file (at / room)
  block_is at holder block e b = b ∙ ap (λ (h : ℕ). long image h (FIRST_POINTER - at / room % 72)) e

  pub block_inside : (at holder block : ℕ) → at < length (contents image file) → holder ≡ pointer_block image file (at / room / 72) → block ≡ long image holder (FIRST_POINTER - at / room % 72) → block < block_count image
  block_inside at holder block l e b =
      let here : data_block image file (at / room) ≡ data_block image file (at / data_size (format_of image)) = ap (λ (n : ℕ). data_block image file (at / n)) room_is in
      omega (arith, block_is at holder block e b, here, s.data_inside (at / data_size (format_of image)) (byte_within image file at l))

  -- the byte after a part is the first of the next pointer block
  pub on_to_next : (at part holder next : ℕ) → 0 < part → at % room + part ≤ room → (at + part) % (72 * room) ≡ 0 → holder ≡ pointer_block image file (at / room / 72) → next ≡ long image holder NEXT_EXTENSION → next ≡ pointer_block image file ((at + part) / room / 72)
  on_to_next at part holder next h l z e n =
      let P : ℕ → Type 0 = λ r. at % r + part ≤ r → (at + part) % (72 * r) ≡ 0 → (at + part) / r / 72 ≡ at / r / 72 + 1 in
      let steps : (at + part) / room / 72 ≡ at / room / 72 + 1 = subst P (sym room_is) (next_holder (format_of image) at part h) l z in
      let one : at / room / 72 + 1 ≡ suc (at / room / 72) = omega arith in
      n ∙ ap (λ (b : ℕ). long image b NEXT_EXTENSION) e ∙ ap (pointer_block image file) (sym (steps ∙ one))

  -- the byte after a part is in the same pointer block
  pub on_in_same : (at part holder : ℕ) → at % room + part ≤ room → (at + part) % (72 * room) ≢ 0 → holder ≡ pointer_block image file (at / room / 72) → holder ≡ pointer_block image file ((at + part) / room / 72)
  on_in_same at part holder l z e =
      let P : ℕ → Type 0 = λ r. at % r + part ≤ r → (at + part) % (72 * r) ≢ 0 → (at + part) / r / 72 ≡ at / r / 72 in
      let stays : (at + part) / room / 72 ≡ at / room / 72 = subst P (sym room_is) (same_holder (format_of image) at part) l z in
      e ∙ ap (pointer_block image file) (sym stays)

  -- one more part is in the buffer
  pub part_copied : (pos done part at from block : ℕ) (buffer old w : List ℕ) → pos + done ≡ at → at % room ≡ from → from + part ≤ room → at + part ≤ length (contents image file) → done + part ≤ length old → block ≡ data_block image file (at / room) → block < block_count image →
      buffer ≡ take done (drop pos (contents image file)) ++ drop done old → w ≡ take part (drop from (bytes_at image block (data_start (format_of image)) (data_size (format_of image)))) →
      put_mid done part buffer w ≡ take (done + part) (drop pos (contents image file)) ++ drop (done + part) old
  part_copied pos done part at from block buffer old w here remainder fits within left is inside filled copied =
      let quotient : at / data_size (format_of image) ≡ at / room = ap (λ (n : ℕ). at / n) (sym room_is) in
      let rest : at % data_size (format_of image) ≡ from = ap (λ (n : ℕ). at % n) (sym room_is) ∙ remainder in
      let found : w ≡ take part (drop done (drop pos (contents image file))) =
      copied ∙ ap (λ (b : ℕ). take part (drop from (bytes_at image b (data_start (format_of image)) (data_size (format_of image))))) is
      ∙ part_is image file at part (at / room) from quotient rest (omega (arith, fits, room_is)) within (omega (arith, is, inside))
      ∙ ap (take part) (ap (λ (n : ℕ). drop n (contents image file)) (sym here) ∙ sym (drop-drop done pos (contents image file))) in
      ap (λ (xs : List ℕ). put_mid done part xs w) filled
      ∙ copied_more (drop pos (contents image file)) old w done part left (omega (arith, length-drop pos (contents image file), within, here)) found
