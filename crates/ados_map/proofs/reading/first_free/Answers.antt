use Rattle.ados_map.proofs.Common.{◌≡◌, ◌≢◌, ◌<◌, ◌+◌, ◌*◌, ◌-◌, ◌^◌, ℕ, List, false, arith, inl, inr, sym, ap, ◌∙◌, bit_at, w32, trailing_zeros, cases_lt, bit_at-trailing_zeros, bit_at-zero, IsInside, block_count, has_free_bit, IsLowestFree, free_bit, IsFreeBits}
use Rattle.ados_map.proofs.BitLemmas.{free_bit-none, free_bit-some, free_bit-within}
use Rattle.ados_map.proofs.reading.first_free.Goals as goal

-- the lowest set bit of a long is the lowest free block, if the longs before it are 0
lowest : (image : List ℕ) (w bits : ℕ) → ((k : ℕ) → IsInside (block_count image) k → k < 2 + 32 * w → has_free_bit image k ≡ false)
    → IsFreeBits image w bits → bits ≢ 0 → bits < 2 ^ 32 → IsLowestFree image (2 + 32 * w + trailing_zeros w32 bits)
lowest image w bits before is some fits =
    let low = bit_at-trailing_zeros w32 bits (omega arith) fits in
    let k = 2 + 32 * w + trailing_zeros w32 bits in
    let one : free_bit image k ≡ 1 = sym (is (trailing_zeros w32 bits) low.0) ∙ low.1 in
    let within : k < block_count image = free_bit-within image k one in
    record {
      inside = (omega arith, within);
      free = free_bit-some image k one;
      lowest = λ j from lt. elim (cases_lt j (2 + 32 * w)) [
        | inl lower ↦ before j (from, omega arith) lower
        | inr here ↦
            let e : 2 + 32 * w + (j - (2 + 32 * w)) ≡ j = omega arith in
            let i : j - (2 + 32 * w) < trailing_zeros w32 bits = omega arith in
            free_bit-none image j (omega arith) (ap (free_bit image) (sym e) ∙ sym (is (j - (2 + 32 * w)) (omega (arith, low.0))) ∙ low.2 (j - (2 + 32 * w)) i)
      ];
    }

-- one more long without a free block
none_more : (image : List ℕ) (w bits : ℕ) → ((k : ℕ) → IsInside (block_count image) k → k < 2 + 32 * w → has_free_bit image k ≡ false)
    → IsFreeBits image w bits → bits ≡ 0 → (k : ℕ) → IsInside (block_count image) k → k < 2 + 32 * (w + 1) → has_free_bit image k ≡ false
none_more image w bits before is none k inside lt = elim (cases_lt k (2 + 32 * w)) [
  | inl lower ↦ before k inside lower
  | inr here ↦
      let e : 2 + 32 * w + (k - (2 + 32 * w)) ≡ k = omega arith in
      free_bit-none image k inside.1 (ap (free_bit image) (sym e) ∙ sym (is (k - (2 + 32 * w)) (omega arith)) ∙ ap (λ (b : ℕ). bit_at b (k - (2 + 32 * w))) none ∙ bit_at-zero (k - (2 + 32 * w)))
]

pub returns-then-bits-ne0-clause-lowest : goal.returns-then-bits-ne0-clause-lowest
returns-then-bits-ne0-clause-lowest c =
    lowest c.args.image.now c.loop-w.w c.free_bits-bits.result c.loop-w.invariant c.free_bits-bits.ensures c.if-bits-ne0.true c.free_bits-bits.type_inv

pub loop-w-preserved : goal.loop-w-preserved
loop-w-preserved c =
    none_more c.args.image.now c.loop-w.w c.free_bits-bits.result c.loop-w.invariant c.free_bits-bits.ensures c.if-bits-ne0.false
