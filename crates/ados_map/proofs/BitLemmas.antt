-- The bit of a block, as a bit of a long in the bitmap.
use Rattle.ados_map.proofs.Common.{◌≡◌, ℕ, ◌+◌, ◌-◌, ◌*◌, ◌/◌, ◌%◌, ◌^◌, ◌<◌, ◌≤◌, inl, inr, Bool, true, false, cond, not, List, arith, ap, ap₂, sym, ◌∙◌, refl, bit_and, ◌==◌, ◌&&◌, bit_at, cases_lt, ne_eqb, lt-ltb, le-ltb, and_pow, bit_at-lt, bit_at_and, bit_at_ones, bit_at_ones_above, pow_pos, pow_below, long, block_count, page_block, page_of, map_long}
use Rattle.adf_block.specs.Image.{has_free_bit}
use Rattle.ados_map.specs.Bits.{free_bit}

-- whether bit i of a long is set
abbrev pub mark : ℕ → ℕ → Bool
mark v i = not (bit_and v (2 ^ i) == 0)

-- whether a block is marked free depends on one bit of one long
pub marked-is : (image : List ℕ) (k : ℕ) → has_free_bit image k ≡ mark (long image (page_block image (page_of k)) (map_long k)) ((k - 2) % 32)
unfolding has_free_bit
marked-is image k = refl

clear_mark : (v i : ℕ) → bit_at v i ≡ 0 → mark v i ≡ false
clear_mark v i e =
    let zero_and : bit_and v (2 ^ i) ≡ 0 = and_pow v i ∙ ap (λ (b : ℕ). b * 2 ^ i) e ∙ omega arith in
    ap (λ (n : ℕ). not (n == 0)) zero_and

set_mark : (v i : ℕ) → bit_at v i ≡ 1 → mark v i ≡ true
set_mark v i e =
    let power : bit_and v (2 ^ i) ≡ 2 ^ i = and_pow v i ∙ ap (λ (b : ℕ). b * 2 ^ i) e ∙ omega arith in
    ap not (ne_eqb (bit_and v (2 ^ i)) 0 (λ z. omega (arith, pow_pos i)))

-- a bit is 1 if it is set, else 0
pub bit-mark : (v i : ℕ) → bit_at v i ≡ cond (mark v i) 1 0
bit-mark v i = elim (cases_lt (bit_at v i) 1) [
  | inl none ↦ let e : bit_at v i ≡ 0 = omega arith in e ∙ ap (λ (b : Bool). cond b 1 0) (sym (clear_mark v i e))
  | inr some ↦ let e : bit_at v i ≡ 1 = omega (arith, bit_at-lt v i) in e ∙ ap (λ (b : Bool). cond b 1 0) (sym (set_mark v i e))
]

-- a bit with a given value is set as given
pub mark-bit : (v i : ℕ) (free : Bool) → bit_at v i ≡ cond free 1 0 → mark v i ≡ free
mark-bit v i true e = set_mark v i e
mark-bit v i false e = clear_mark v i e

-- equal bits are both set or both clear
pub mark-same : (u v i : ℕ) → bit_at u i ≡ bit_at v i → mark u i ≡ mark v i
mark-same u v i e = mark-bit u i (mark v i) (e ∙ bit-mark v i)

-- the position of bit i of long w
pub page_of_bit : (w i : ℕ) → i < 32 → page_of (2 + 32 * w + i) ≡ w / 127
page_of_bit w i lt = omega arith

pub long_of_bit : (w i : ℕ) → i < 32 → map_long (2 + 32 * w + i) ≡ 1 + w % 127
long_of_bit w i lt = omega arith

pub bit_of_bit : (w i : ℕ) → i < 32 → (2 + 32 * w + i - 2) % 32 ≡ i
bit_of_bit w i lt = omega arith

-- bit i of long w is the mark of its block
pub marked-at : (image : List ℕ) (w i : ℕ) → i < 32 → has_free_bit image (2 + 32 * w + i) ≡ mark (long image (page_block image (w / 127)) (1 + w % 127)) i
marked-at image w i lt =
    marked-is image (2 + 32 * w + i)
    ∙ ap₂ (λ (p l : ℕ). mark (long image (page_block image p) l) ((2 + 32 * w + i - 2) % 32)) (page_of_bit w i lt) (long_of_bit w i lt)
    ∙ ap (mark (long image (page_block image (w / 127)) (1 + w % 127))) (bit_of_bit w i lt)

-- the bit of a block inside the volume
pub free_bit-inside : (image : List ℕ) (k : ℕ) → k < block_count image → free_bit image k ≡ cond (has_free_bit image k) 1 0
unfolding free_bit
free_bit-inside image k lt = ap (λ (b : Bool). cond (b && has_free_bit image k) 1 0) (lt-ltb k (block_count image) lt)

-- a bit past the end counts as 0
pub free_bit-past : (image : List ℕ) (k : ℕ) → block_count image ≤ k → free_bit image k ≡ 0
unfolding free_bit
free_bit-past image k le = ap (λ (b : Bool). cond (b && has_free_bit image k) 1 0) (le-ltb k (block_count image) le)

-- a bit below a mask of ones
pub masked_below : (v n i : ℕ) → i < n → n < 32 → bit_at (bit_and v (1 * 2 ^ n % 4294967296 - 1)) i ≡ bit_at v i
masked_below v n i lt fits =
    let mask : 1 * 2 ^ n % 4294967296 - 1 ≡ 2 ^ n - 1 = omega (arith, pow_below n 32 fits) in
    ap (λ (m : ℕ). bit_at (bit_and v m) i) mask
    ∙ bit_at_and v (2 ^ n - 1) i
    ∙ omega (arith, bit_at_ones n i lt, bit_at-lt v i)

-- a bit at or above a mask of ones
pub masked_above : (v n i : ℕ) → n ≤ i → n < 32 → bit_at (bit_and v (1 * 2 ^ n % 4294967296 - 1)) i ≡ 0
masked_above v n i le fits =
    let mask : 1 * 2 ^ n % 4294967296 - 1 ≡ 2 ^ n - 1 = omega (arith, pow_below n 32 fits) in
    ap (λ (m : ℕ). bit_at (bit_and v m) i) mask
    ∙ bit_at_and v (2 ^ n - 1) i
    ∙ omega (arith, bit_at_ones_above n i le)

-- the bit 0 is that of a block not marked free
pub unmarked : (free : Bool) → ◌≡◌ {A = ℕ} (cond free 1 0) 0 → free ≡ false
unmarked true e = absurd (omega arith)
unmarked false e = refl

-- the bit 1 is that of a block marked free
pub marked : (free : Bool) → ◌≡◌ {A = ℕ} (cond free 1 0) 1 → free ≡ true
marked true e = refl
marked false e = absurd (omega arith)

-- a block inside the volume with bit 0 is not marked free
pub free_bit-none : (image : List ℕ) (k : ℕ) → k < block_count image → free_bit image k ≡ 0 → has_free_bit image k ≡ false
free_bit-none image k lt e = unmarked (has_free_bit image k) (sym (free_bit-inside image k lt) ∙ e)

-- a block with bit 1 is inside the volume
pub free_bit-within : (image : List ℕ) (k : ℕ) → free_bit image k ≡ 1 → k < block_count image
free_bit-within image k e = elim (cases_lt k (block_count image)) [
  | inl lt ↦ lt
  | inr past ↦ absurd (omega (arith, free_bit-past image k past, e))
]

pub free_bit-some : (image : List ℕ) (k : ℕ) → free_bit image k ≡ 1 → has_free_bit image k ≡ true
free_bit-some image k e = marked (has_free_bit image k) (sym (free_bit-inside image k (free_bit-within image k e)) ∙ e)
