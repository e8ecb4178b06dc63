-- Counts of the bits in the longs of the bitmap.
use Rattle.ados_map.proofs.Common.{◌≡◌, ℕ, zero, suc, ◌+◌, ◌*◌, ◌-◌, ◌/◌, ◌^◌, ◌<◌, ◌≤◌, inl, inr, Bool, List, cond, false, arith, ap, sym, ◌∙◌, refl, bit_at, ones_step, cases_lt, bit_at-suc, bit_at_lowest, total, block_count, has_free_bit, IsInside, free_bit_count, free_bit, IsFreeBits}
use Rattle.std.specs.Int.Count.{ones, ones_in}
use Rattle.std.proofs.Math.Nat.{pow-suc}
use Rattle.ados_map.proofs.BitLemmas.{free_bit-inside, free_bit-past}
use Rattle.adf_block.proofs.Totals.{total-same}

-- a sum with its first number split off
total-first : (f : ℕ → ℕ) (n : ℕ) → total f (suc n) ≡ f 0 + total (λ (k : ℕ). f (suc k)) n
total-first f zero = omega arith
total-first f (suc n) = omega (arith, total-first f n)

-- a sum in two parts
pub total-add : (f : ℕ → ℕ) (m n : ℕ) → total f (m + n) ≡ total f m + total (λ (k : ℕ). f (m + k)) n
total-add f m zero = let e : m + zero ≡ m = omega arith in ap (total f) e ∙ omega arith
total-add f m (suc n) =
    let e : m + suc n ≡ suc (m + n) = omega arith in
    ap (total f) e ∙ omega (arith, total-add f m n)

-- a sum of zeros
pub total-zero : (f : ℕ → ℕ) (n : ℕ) → ((j : ℕ) → j < n → f j ≡ 0) → total f n ≡ 0
total-zero f zero h = refl
total-zero f (suc n) h = omega (arith, total-zero f n (λ j lt. h j (omega arith)), h n (omega arith))

-- a sum whose numbers from n on are 0
pub total-cut : (f g : ℕ → ℕ) (n m : ℕ) → n ≤ m → ((k : ℕ) → k < n → g k ≡ f k) → ((k : ℕ) → n ≤ k → g k ≡ 0) → total g m ≡ total f n
total-cut f g n zero le same none =
    let e : n ≡ zero = omega arith in
    ap (total f) (sym e)
total-cut f g n (suc m) le same none = elim (cases_lt m n) [
  | inl last ↦
      let e : n ≡ suc m = omega arith in
      total-same f g (suc m) (λ k lt. same k (omega arith)) ∙ ap (total f) (sym e)
  | inr more ↦ omega (arith, total-cut f g n m more same none, none m more)
]

-- the bits set in a number of w bits
pub ones-total : (w n : ℕ) → n < 2 ^ w → ones n ≡ total (bit_at n) w
unfolding ones ones_in
ones-total zero n lt = let e : n ≡ 0 = omega arith in ap ones e
ones-total (suc w) n lt =
    let half : n / 2 < 2 ^ w = omega (arith, pow-suc 2 w) in
    let same = total-same (λ (k : ℕ). bit_at n (suc k)) (bit_at (n / 2)) w (λ k below. sym (bit_at-suc n k)) in
    omega (arith, ones_step n, ones-total w (n / 2) half, total-first (bit_at n) w, bit_at_lowest n, same)

-- the sum after n more bits, those of one long
one_more : (f : ℕ → ℕ) (w bits n : ℕ) → bits < 2 ^ n → ((i : ℕ) → i < n → bit_at bits i ≡ f (n * w + i)) → total f (n * (w + 1)) ≡ total f (n * w) + ones bits
one_more f w bits n fits is =
    let e : n * (w + 1) ≡ n * w + n = omega arith in
    let here = total-same (bit_at bits) (λ (i : ℕ). f (n * w + i)) n (λ i lt. sym (is i lt)) in
    ap (total f) e ∙ omega (arith, total-add f (n * w) n, here, ones-total n bits fits)

-- the number of free blocks in the first w longs
unfoldable pub free_before : List ℕ → ℕ → ℕ
free_before image w = total (λ (k : ℕ). free_bit image (2 + k)) (32 * w)

pub free_before-none : (image : List ℕ) → free_before image 0 ≡ 0
unfolding free_before
free_before-none image = refl

-- it is 0 if none of these blocks is free
pub free_before-below : (image : List ℕ) (w : ℕ) → ((k : ℕ) → IsInside (block_count image) k → k < 2 + 32 * w → has_free_bit image k ≡ false) → 0 ≡ free_before image w
unfolding free_before
free_before-below image w none =
    sym (total-zero (λ (k : ℕ). free_bit image (2 + k)) (32 * w) (λ k lt. elim (cases_lt (2 + k) (block_count image)) [
      | inl within ↦ free_bit-inside image (2 + k) within ∙ ap (λ (b : Bool). cond b 1 0) (none (2 + k) (omega arith, within) (omega arith))
      | inr past ↦ free_bit-past image (2 + k) past
    ]))

-- one more long
pub free_before-more : (image : List ℕ) (w bits : ℕ) → IsFreeBits image w bits → bits < 2 ^ 32 → free_before image (w + 1) ≡ free_before image w + ones bits
unfolding free_before
free_before-more image w bits is fits =
    one_more (λ (k : ℕ). free_bit image (2 + k)) w bits 32 fits
    (λ i lt. let e : 2 + 32 * w + i ≡ 2 + (32 * w + i) = omega arith in is i lt ∙ ap (free_bit image) e)

-- all longs
pub free_before-all : (image : List ℕ) (w : ℕ) → block_count image - 2 ≤ 32 * w → free_before image w ≡ free_bit_count image
unfolding free_before
free_before-all image w le =
    total-cut (λ (k : ℕ). cond (has_free_bit image (k + 2)) 1 0) (λ (k : ℕ). free_bit image (2 + k)) (block_count image - 2) (32 * w) le
    (λ k lt. free_bit-inside image (2 + k) (omega arith) ∙ ap (λ (j : ℕ). cond (has_free_bit image j) 1 0) (omega arith))
    (λ k past. free_bit-past image (2 + k) (omega arith))

-- the first longs have at most as many free blocks as all longs
pub free_before-le : (image : List ℕ) (w : ℕ) → free_before image w ≤ free_bit_count image
unfolding free_before
free_before-le image w =
    let n = block_count image in
    let e : 32 * (w + n) ≡ 32 * w + 32 * n = omega arith in
    let all = free_before-all image (w + n) (omega arith) in
    omega (arith, all, ap (total (λ (k : ℕ). free_bit image (2 + k))) e, total-add (λ (k : ℕ). free_bit image (2 + k)) (32 * w) (32 * n))
