use Rattle.ados_map.proofs.Common.{◌≡◌, ◌*◌, ◌-◌, ◌%◌, ◌^◌, ◌<◌, ℕ, not, eqb, arith, ap, ap₂, sym, ◌∙◌, bit_and, pow_below, long, map_long}
use Rattle.ados_map.proofs.BitLemmas.{marked-is}
use Rattle.ados_map.proofs.reading.is_free.Goals as goal

-- 1 shifted by fewer than 32 bits
shifted : (i : ℕ) → i < 32 → 1 * 2 ^ i % 4294967296 ≡ 2 ^ i
shifted i lt = omega (arith, pow_below i 32 lt)

pub returns : goal.returns
returns c =
    let i = (c.args.b - 2) % 32 in
    let is = c.long.ensures ∙ ap (λ (p : ℕ). long c.args.image.now p (map_long c.args.b)) c.page_at-page.ensures.page in
    ap₂ (λ (v m : ℕ). not (eqb (bit_and v m) 0)) is (shifted i (omega arith)) ∙ sym (marked-is c.args.image.now c.args.b)
