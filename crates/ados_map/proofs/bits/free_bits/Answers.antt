use Rattle.ados_map.proofs.Common.{◌≡◌, ◌<◌, ◌≤◌, ◌+◌, ◌*◌, ◌-◌, ◌/◌, ◌%◌, ℕ, List, Bool, cond, inl, inr, ap, sym, ◌∙◌, arith, bit_at, cases_lt, long, block_count, page_block, free_bit}
use Rattle.ados_map.proofs.BitLemmas.{mark, marked-at, bit-mark, free_bit-inside, free_bit-past, masked_below, masked_above}
use Rattle.ados_map.proofs.bits.free_bits.Goals as goal

-- the bit of a block inside the volume
inside : (image : List ℕ) (w i v : ℕ) → v ≡ long image (page_block image (w / 127)) (1 + w % 127) → i < 32 → 2 + 32 * w + i < block_count image → bit_at v i ≡ free_bit image (2 + 32 * w + i)
inside image w i v is lt within =
    bit-mark v i
    ∙ ap (λ (u : ℕ). cond (mark u i) 1 0) is
    ∙ ap (λ (b : Bool). cond b 1 0) (sym (marked-at image w i lt))
    ∙ sym (free_bit-inside image (2 + 32 * w + i) within)

pub returns-then-left-lt-LONG_BITS : goal.returns-then-left-lt-LONG_BITS
returns-then-left-lt-LONG_BITS c = λ i lt.
    let w = c.args.w in
    let left = c.blocks-2.result - 2 - 32 * w in
    let count : c.blocks-2.result ≡ block_count c.args.image.now = c.blocks-2.ensures.count in
    let fits : left < 32 = c.if-left-lt-LONG_BITS.true in
    let is : c.long-bits.result ≡ long c.args.image.now (page_block c.args.image.now (w / 127)) (1 + w % 127) =
    c.long-bits.ensures ∙ ap (λ (b : ℕ). long c.args.image.now b (1 + w % 127)) c.page_at.ensures.page in
    elim (cases_lt i left) [
      | inl below ↦ masked_below c.long-bits.result left i below fits ∙ inside c.args.image.now w i c.long-bits.result is lt (omega (arith, count))
      | inr above ↦ masked_above c.long-bits.result left i above fits ∙ sym (free_bit-past c.args.image.now (2 + 32 * w + i) (omega (arith, count)))
    ]

pub returns-else-left-lt-LONG_BITS : goal.returns-else-left-lt-LONG_BITS
returns-else-left-lt-LONG_BITS c = λ i lt.
    let w = c.args.w in
    let count : c.blocks-2.result ≡ block_count c.args.image.now = c.blocks-2.ensures.count in
    let is : c.long-bits.result ≡ long c.args.image.now (page_block c.args.image.now (w / 127)) (1 + w % 127) =
    c.long-bits.ensures ∙ ap (λ (b : ℕ). long c.args.image.now b (1 + w % 127)) c.page_at.ensures.page in
    let all : 32 ≤ c.blocks-2.result - 2 - 32 * w = c.if-left-lt-LONG_BITS.false in
    inside c.args.image.now w i c.long-bits.result is lt (omega (arith, count))
