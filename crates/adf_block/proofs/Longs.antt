-- A long as its four bytes.
use Rattle.adf_block.proofs.Common.{◌≡◌, ℕ, ◌+◌, ◌*◌, ◌/◌, ◌<◌, ◌^◌, List, drop, slice_index, arith, ap, sym, ◌∙◌, refl, get_or-drop, byte_at, long}
use Rattle.adf_block.specs.Whole.{IsImage}

-- byte k of a long is a byte of its block
at_byte : (image : List ℕ) (b i k : ℕ) → slice_index (drop (512 * b + 4 * i) image) k ≡ byte_at image b (4 * i + k)
unfolding byte_at
at_byte image b i k = get_or-drop (512 * b + 4 * i) image k 0 ∙ ap (slice_index image) (omega arith)

-- a long by its bytes, big-endian
pub long-bytes : (image : List ℕ) (b i : ℕ) → long image b i ≡ byte_at image b (4 * i + 0) * 256 ^ 3 + (byte_at image b (4 * i + 1) * 256 ^ 2 + (byte_at image b (4 * i + 2) * 256 ^ 1 + (byte_at image b (4 * i + 3) * 256 ^ 0 + 0)))
unfolding long
long-bytes image b i = rw (← at_byte image b i 0, ← at_byte image b i 1, ← at_byte image b i 2, ← at_byte image b i 3) refl

-- equal bytes make equal longs
pub long-same : (old new : List ℕ) (b i : ℕ) → ((k : ℕ) → k / 4 ≡ i → byte_at new b k ≡ byte_at old b k) → long new b i ≡ long old b i
long-same old new b i same =
    long-bytes new b i
    ∙ rw (same (4 * i + 0) (omega arith), same (4 * i + 1) (omega arith), same (4 * i + 2) (omega arith), same (4 * i + 3) (omega arith)) (sym (long-bytes old b i))

-- a byte of an image is below 256
pub byte_at-below : (image : List ℕ) (b i : ℕ) → IsImage image → byte_at image b i < 256
unfolding byte_at
byte_at-below image b i h = h.byte (512 * b + i)

-- a long of an image is below 2^32
pub long-below : (image : List ℕ) (b i : ℕ) → IsImage image → long image b i < 2 ^ 32
long-below image b i h =
    omega (arith, long-bytes image b i, byte_at-below image b (4 * i + 0) h, byte_at-below image b (4 * i + 1) h, byte_at-below image b (4 * i + 2) h, byte_at-below image b (4 * i + 3) h)
