-- The bytes of a file, copied block by block.
use Rattle.ados_salvage.proofs.Common.{◌≡◌, ◌≢◌, ℕ, suc, ◌+◌, ◌-◌, ◌*◌, ◌/◌, ◌%◌, ◌<◌, ◌≤◌, ◌++◌, List, length, take, drop, min, sym, ap, ap₂, ◌∙◌, arith, data_counted, holder_of, take-take, length-take, Ofs, Ffs, NEXT_EXTENSION, block_count, bytes_at, long, format_of, ReadableFile, contents, data_block, pointer_block, data_count, data_size, data_start, whole_block}
use Rattle.std.proofs.Math.Seq.{take-add, take-length}
use Rattle.adf_block.specs.declared.layout.Format.{Format}
use Rattle.ados_data.proofs.Reading.{data_of_block, part_is}

-- data block i of a file of this size, and how much of it is the file's
numbers : (format : Format) (i size part : ℕ) → i < data_count format size → part ≡ min (data_size format) (size - data_size format * i)
    → (data_size format * i / data_size format ≡ i) × (data_size format * i % data_size format ≡ 0) × (part ≤ data_size format) × (data_size format * i + part ≤ size)
    × (data_size format * i + part ≡ min (data_size format * (i + 1)) size)
numbers Ofs i size part l e = (omega arith, omega arith, omega arith, omega arith, omega arith)
numbers Ffs i size part l e = (omega arith, omega arith, omega arith, omega arith, omega arith)

before : (format : Format) (i size : ℕ) → i < data_count format size → min (data_size format * i) size ≡ data_size format * i
before Ofs i size l = omega arith
before Ffs i size l = omega arith

at_end : (format : Format) (i size : ℕ) → i ≡ data_count format size → min (data_size format * i) size ≡ size
at_end Ofs i size e = omega arith
at_end Ffs i size e = omega arith

pub copied_all : (image : List ℕ) (file i size : ℕ) (xs : List ℕ) → size ≡ length (contents image file) → i ≡ data_count (format_of image) size → xs ≡ take (min (data_size (format_of image) * i) size) (contents image file) → xs ≡ contents image file
copied_all image file i size xs whole e is =
    is ∙ ap (λ (n : ℕ). take n (contents image file)) (at_end (format_of image) i size e ∙ whole) ∙ take-length (contents image file)

module _ (image : List ℕ) (file : ℕ) where
  pub block_is : (i holder block : ℕ) → holder ≡ pointer_block image file (i / 72) → block ≡ long image holder (77 - i % 72) → block ≡ data_block image file i
  block_is i holder block e b = b ∙ ap (λ (h : ℕ). long image h (77 - i % 72)) e

  -- the pointer block of the next data block
  pub holder_on : (i holder next : ℕ) → (i + 1) % 72 ≡ 0 → holder ≡ pointer_block image file (i / 72) → next ≡ long image holder NEXT_EXTENSION → next ≡ pointer_block image file ((i + 1) / 72)
  holder_on i holder next z e n =
      let steps : (i + 1) / 72 ≡ suc (i / 72) = omega arith in
      n ∙ ap (λ (b : ℕ). long image b NEXT_EXTENSION) e ∙ ap (pointer_block image file) (sym steps)

  pub holder_stays : (i holder : ℕ) → (i + 1) % 72 ≢ 0 → holder ≡ pointer_block image file (i / 72) → holder ≡ pointer_block image file ((i + 1) / 72)
  holder_stays i holder z e =
      let stays : i / 72 ≡ (i + 1) / 72 = omega arith in
      e ∙ ap (pointer_block image file) stays

  module _ (s : ReadableFile image file) (size : ℕ) (whole : size ≡ length (contents image file)) where
    -- the pointer block of data block i, and the block itself
    pub holder_inside : (i holder : ℕ) → i < data_count (format_of image) size → holder ≡ pointer_block image file (i / 72) → holder < block_count image
    holder_inside i holder l e =
        let count = data_counted image file ∙ ap (data_count (format_of image)) (sym whole) in
        omega (arith, e, s.headers_inside (i / 72) (holder_of image file i (omega (arith, l, count))))

    pub block_inside : (i block : ℕ) → i < data_count (format_of image) size → block ≡ data_block image file i → block < block_count image
    block_inside i block l e =
        let count = data_counted image file ∙ ap (data_count (format_of image)) (sym whole) in
        omega (arith, e, s.data_inside i (omega (arith, l, count)))

    -- one more block was copied
    pub copied_more : (i start behind block : ℕ) (xs bytes part_bytes ys : List ℕ) → i < data_count (format_of image) size → start ≡ data_start (format_of image) → xs ≡ take (min (data_size (format_of image) * i) size) (contents image file)
        → behind ≡ min 512 (start + (size - length xs)) → block ≡ data_block image file i → bytes ≡ bytes_at image block 0 512 → length bytes ≡ 512 → part_bytes ≡ take (behind - start) (drop start bytes) → ys ≡ xs ++ part_bytes
        → ys ≡ take (min (data_size (format_of image) * (i + 1)) size) (contents image file)
    copied_more i start behind block xs bytes part_bytes ys l begins so_far ends here there count cut grown =
        let F = format_of image in
        let C = contents image file in
        let at = data_size F * i in
        let part = behind - start in
        let first : min at size ≡ at = before F i size l in
        let done : length xs ≡ at = ap length so_far ∙ length-take (min at size) C ∙ omega (arith, first, whole, l) in
        let part_is_min : part ≡ min (data_size F) (size - at) = omega (arith, begins, ends, done, whole_block F) in
        let n = numbers F i size part l part_is_min in
        let own : part_bytes ≡ take part (bytes_at image block (data_start F) (data_size F)) =
        cut ∙ sym (take-take part (length bytes - start) (drop start bytes) (omega (arith, n.2, count, begins, whole_block F)))
        ∙ ap (take part) (data_of_block image block F bytes start there count begins) in
        let of_file : part_bytes ≡ take part (drop at C) =
        own ∙ ap (λ (b : ℕ). take part (bytes_at image b (data_start F) (data_size F))) here
        ∙ part_is image file at part i 0 n.0 n.1 (omega (arith, n.2)) (omega (arith, n.3, whole)) (omega (arith, here, block_inside i block l here)) in
        grown ∙ ap₂ (λ (a b : List ℕ). a ++ b) (so_far ∙ ap (λ (m : ℕ). take m C) first) of_file
        ∙ sym (take-add at part C) ∙ ap (λ (m : ℕ). take m C) n.4
