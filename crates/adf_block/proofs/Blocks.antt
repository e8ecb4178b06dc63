-- A whole block: its bytes and longs in the list of its bytes, and the image after a write to it.
use Rattle.adf_block.proofs.Common.{◌≡◌, inl, inr, ℕ, ◌+◌, ◌-◌, ◌*◌, ◌/◌, ◌%◌, ◌<◌, ◌≤◌, ◌++◌, List, length, take, drop, slice_index, arith, ap, sym, ◌∙◌, append_assoc, length-append, length-take, length-drop, cases_lt, ext_get_or, get_or-take, get_or-drop, get_or_append_left, get_or-append_right, take_all, big_number, byte_at, bytes_at, long, block_count, OnlyBlock, with_block}
use Rattle.adf_block.proofs.Longs.{long-bytes}

-- a byte of a part of a block
pub byte-bytes_at : (image : List ℕ) (b i n k : ℕ) → k < n → slice_index (bytes_at image b i n) k ≡ byte_at image b (i + k)
unfolding bytes_at byte_at
byte-bytes_at image b i n k lt =
    get_or-take n (drop (512 * b + i) image) k 0 lt ∙ get_or-drop (512 * b + i) image k 0 ∙ ap (slice_index image) (omega arith)

-- byte k of a long, in the bytes of its block
byte_of_long : (image : List ℕ) (b i : ℕ) → i < 128 → (k : ℕ) → k < 4 → slice_index (drop (4 * i) (bytes_at image b 0 512)) k ≡ byte_at image b (4 * i + k)
byte_of_long image b i lt k below =
    get_or-drop (4 * i) (bytes_at image b 0 512) k 0
    ∙ byte-bytes_at image b 0 512 (4 * i + k) (omega arith)
    ∙ ap (byte_at image b) (omega arith)

-- a long, read from the bytes of its block
pub long-bytes_at : (image : List ℕ) (b i : ℕ) → i < 128 → big_number 4 (drop (4 * i) (bytes_at image b 0 512)) ≡ long image b i
long-bytes_at image b i lt =
    let byte = byte_of_long image b i lt in
    rw (byte 0 (omega arith), byte 1 (omega arith), byte 2 (omega arith), byte 3 (omega arith)) (sym (long-bytes image b i))

-- 512 bytes written in place of a block
pub with_block-is : (image : List ℕ) (b : ℕ) (w : List ℕ) → b < block_count image → length w ≡ 512
    → with_block image b w ≡ take (512 * b) image ++ w ++ drop (512 * b + 512) image
unfolding with_block
with_block-is image b w inside whole =
    take_all (length image) (take (512 * b) image ++ w ++ drop (512 * b + length w) image)
    (omega (arith, length-append (take (512 * b) image ++ w) (drop (512 * b + length w) image), length-append (take (512 * b) image) w, length-take (512 * b) image, length-drop (512 * b + length w) image))
    ∙ ap (λ (n : ℕ). take (512 * b) image ++ w ++ drop (512 * b + n) image) whole

-- the length stays the same, for any w
pub length_with_block : (image : List ℕ) (b : ℕ) (w : List ℕ) → length (with_block image b w) ≡ length image
unfolding with_block
length_with_block image b w =
    omega (
      arith,
      length-take (length image) (take (512 * b) image ++ w ++ drop (512 * b + length w) image),
      length-append (take (512 * b) image ++ w) (drop (512 * b + length w) image),
      length-append (take (512 * b) image) w,
      length-take (512 * b) image,
      length-drop (512 * b + length w) image,
    )

-- a byte before the block
before-with_block : (image : List ℕ) (b : ℕ) (w : List ℕ) → b < block_count image → length w ≡ 512 → (k : ℕ) → k < 512 * b → slice_index (with_block image b w) k ≡ slice_index image k
before-with_block image b w inside whole k lt =
    ap (λ (xs : List ℕ). slice_index xs k) (with_block-is image b w inside whole ∙ append_assoc (take (512 * b) image) w (drop (512 * b + 512) image))
    ∙ get_or_append_left (take (512 * b) image) (w ++ drop (512 * b + 512) image) 0 k (omega (arith, length-take (512 * b) image))
    ∙ get_or-take (512 * b) image k 0 lt

-- a byte after the block
behind-with_block : (image : List ℕ) (b : ℕ) (w : List ℕ) → b < block_count image → length w ≡ 512 → (k : ℕ) → 512 * b + 512 ≤ k → slice_index (with_block image b w) k ≡ slice_index image k
behind-with_block image b w inside whole k le =
    let front : length (take (512 * b) image ++ w) ≡ 512 * b + 512 = omega (arith, length-append (take (512 * b) image) w, length-take (512 * b) image) in
    ap (λ (xs : List ℕ). slice_index xs k) (with_block-is image b w inside whole)
    ∙ get_or-append_right (take (512 * b) image ++ w) (drop (512 * b + 512) image) (512 * b + 512) k 0 front le
    ∙ get_or-drop (512 * b + 512) image (k - (512 * b + 512)) 0
    ∙ ap (slice_index image) (omega arith)

-- a byte of the block
pub byte_at-with_block : (image : List ℕ) (b : ℕ) (w : List ℕ) → b < block_count image → length w ≡ 512 → (k : ℕ) → k < 512 → byte_at (with_block image b w) b k ≡ slice_index w k
unfolding byte_at
byte_at-with_block image b w inside whole k lt =
    let front : length (take (512 * b) image) ≡ 512 * b = omega (arith, length-take (512 * b) image) in
    ap (λ (xs : List ℕ). slice_index xs (512 * b + k)) (with_block-is image b w inside whole ∙ append_assoc (take (512 * b) image) w (drop (512 * b + 512) image))
    ∙ get_or-append_right (take (512 * b) image) (w ++ drop (512 * b + 512) image) (512 * b) (512 * b + k) 0 front (omega arith)
    ∙ ap (slice_index (w ++ drop (512 * b + 512) image)) (omega arith)
    ∙ get_or_append_left w (drop (512 * b + 512) image) 0 k (omega arith)

-- nothing outside the block changes
pub only-with_block : (image : List ℕ) (b : ℕ) (w : List ℕ) → b < block_count image → length w ≡ 512 → OnlyBlock b image (with_block image b w)
unfolding byte_at
only-with_block image b w inside whole = record {
  same_length = length_with_block image b w;
  same_byte = λ c k lt ne. elim (cases_lt (512 * c + k) (512 * b)) [
    | inl before ↦ before-with_block image b w inside whole (512 * c + k) before
    | inr from ↦ elim (cases_lt (512 * c + k) (512 * b + 512)) [
      | inl within ↦ absurd (ne (omega arith))
      | inr behind ↦ behind-with_block image b w inside whole (512 * c + k) behind
    ]
  ];
}

-- the boot blocks are unchanged if each of their bytes is
pub boot_same : (old new : List ℕ) → length new ≡ length old → ((b i : ℕ) → b < 2 → i < 512 → byte_at new b i ≡ byte_at old b i) → bytes_at new 0 0 1024 ≡ bytes_at old 0 0 1024
unfolding byte_at bytes_at
boot_same old new size same =
    ext_get_or 0 (take 1024 (drop (512 * 0 + 0) new)) (take 1024 (drop (512 * 0 + 0) old))
    (omega (arith, length-take 1024 (drop (512 * 0 + 0) new), length-take 1024 (drop (512 * 0 + 0) old), length-drop (512 * 0 + 0) new, length-drop (512 * 0 + 0) old, size))
    (λ k l.
    let below : k < 1024 = omega (arith, l, length-take 1024 (drop (512 * 0 + 0) new)) in
    let here : 512 * (k / 512) + k % 512 ≡ 512 * 0 + 0 + k = omega arith in
    get_or-take 1024 (drop (512 * 0 + 0) new) k 0 below ∙ get_or-drop (512 * 0 + 0) new k 0
    ∙ ap (slice_index new) (sym here) ∙ same (k / 512) (k % 512) (omega (arith, below)) (omega arith) ∙ ap (slice_index old) here
    ∙ sym (get_or-take 1024 (drop (512 * 0 + 0) old) k 0 below ∙ get_or-drop (512 * 0 + 0) old k 0))
