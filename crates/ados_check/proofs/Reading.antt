-- Reads at the position of a kept block.
use Rattle.ados_check.proofs.Common.{◌≡◌, ◌≢◌, ℕ, ◌+◌, ◌*◌, ◌<◌, ◌≤◌, inl, inr, List, length, take, drop, get_or, slice_index, Option, None, Some, MatchOption, arith, ap, sym, ◌∙◌, subst, length-take, length-drop, get_or-take, get_or-drop, get_or_default, same_lists, big_number, byte_at, bytes_at, long, block_sum, block_count, long-bytes, byte-bytes_at, AreKept, HasBoot, StandsAt, kept_length, start_of, IsKept, ◌==◌, Bool, true, false, if◌then◌else◌, refl, ne_eqb, primary_type, DATA_TYPE}

pub of_data : (image : List ℕ) (block : ℕ) → primary_type image block ≡ DATA_TYPE → kept_length image block ≡ 24
of_data image block is = rw is refl

pub of_other : (image : List ℕ) (block : ℕ) → primary_type image block ≢ DATA_TYPE → kept_length image block ≡ 512
of_other image block other = rw (ne_eqb (primary_type image block) DATA_TYPE other) refl

-- at least a header, and at most a whole block
pub within : (image : List ℕ) (block : ℕ) → (24 ≤ kept_length image block) × (kept_length image block ≤ 512)
within image block = by_type (primary_type image block == DATA_TYPE)
  where
    by_type : (is : Bool) → (24 ≤ (if is then 24 else 512)) × ((if is then 24 else 512) ≤ 512)
    by_type true = (omega arith, omega arith)
    by_type false = (omega arith, omega arith)

-- a long of a list that is one block
pub first_long : (block : List ℕ) (i : ℕ) → big_number 4 (drop (4 * i) block) ≡ long block 0 i
unfolding long
first_long block i = ap (λ (n : ℕ). big_number 4 (drop n block)) (omega arith)

-- a block is at its position
pub stands_at : (starts : List (Option ℕ)) (kept image : List ℕ) (b start : ℕ) (x : Option ℕ) → AreKept starts kept image → b < block_count image → x ≡ get_or starts b x → x ≡ Some start → StandsAt kept image b start
stands_at starts kept image b start x are inside read is =
    let within : b < length starts = omega (arith, are.whole, inside) in
    let noted : start_of starts b ≡ Some start = get_or_default starts b None x within ∙ sym read ∙ is in
    subst (λ (o : Option ℕ). MatchOption o (block_sum image b ≢ 0) (StandsAt kept image b)) noted (are.noted b within)

-- the long is among the kept bytes
room : (image : List ℕ) (b i : ℕ) → IsKept image b i → i < 128 → 4 * i + 4 ≤ kept_length image b
room image b i is small = elim is.1 [
  | inl header ↦ omega (arith, header, (within image b).0)
  | inr other ↦ omega (arith, small, of_other image b other)
]

pub long_there : (kept image : List ℕ) (b start i : ℕ) → StandsAt kept image b start → IsKept image b i → i < 128 → big_number 4 (drop (start + 4 * i) kept) ≡ long image b i
long_there kept image b start i stands is small =
    let fits = room image b i is small in
    let byte = λ (k : ℕ) (below : k < 4).
    get_or-drop (start + 4 * i) kept k 0
    ∙ ap (slice_index kept) (omega arith)
    ∙ stands.same (4 * i + k) (omega (arith, fits, below)) in
    rw (byte 0 (omega arith), byte 1 (omega arith), byte 2 (omega arith), byte 3 (omega arith)) (sym (long-bytes image b i))

-- all of a block that is not an OFS data block
pub block_there : (kept image : List ℕ) (b start : ℕ) → StandsAt kept image b start → IsKept image b 127 → b < block_count image → take 512 (drop start kept) ≡ bytes_at image b 0 512
unfolding bytes_at
block_there kept image b start stands is inside =
    let fits = room image b 127 is (omega arith) in
    let size : length (take 512 (drop start kept)) ≡ 512 = omega (arith, fits, stands.within, length-take 512 (drop start kept), length-drop start kept) in
    let whole : length (bytes_at image b 0 512) ≡ 512 = omega (arith, inside, length-take 512 (drop (512 * b + 0) image), length-drop (512 * b + 0) image) in
    same_lists _ _ (size ∙ sym whole) (λ k d below.
    get_or_default (take 512 (drop start kept)) k d 0 below
    ∙ get_or-take 512 (drop start kept) k 0 (omega (arith, below, size))
    ∙ get_or-drop start kept k 0
    ∙ stands.same k (omega (arith, below, size, fits))
    ∙ ap (byte_at image b) (omega arith)
    ∙ sym (byte-bytes_at image b 0 512 k (omega (arith, below, size)))
    ∙ get_or_default (bytes_at image b 0 512) k 0 d (omega (arith, below, size, whole)))

-- the first four bytes
pub boot_there : (boot image : List ℕ) → HasBoot boot image → 512 ≤ length image → boot ≡ bytes_at image 0 0 4
unfolding bytes_at byte_at
boot_there boot image has some =
    let size : length (bytes_at image 0 0 4) ≡ 4 = omega (arith, some, length-take 4 (drop (512 * 0 + 0) image), length-drop (512 * 0 + 0) image) in
    same_lists _ _ (has.size ∙ sym size) (λ k d below.
    get_or_default boot k d 0 below
    ∙ has.same (omega (arith, some)) k (omega (arith, below, has.size))
    ∙ ap (slice_index image) (omega arith)
    ∙ sym (byte-bytes_at image 0 0 4 k (omega (arith, below, has.size)))
    ∙ get_or_default (bytes_at image 0 0 4) k 0 d (omega (arith, below, has.size, size)))
