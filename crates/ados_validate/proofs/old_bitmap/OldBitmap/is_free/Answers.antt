use Rattle.ados_validate.proofs.Common.{◌≡◌, ◌*◌, ◌-◌, ◌%◌, ◌^◌, ◌<◌, ℕ, not, eqb, arith, ap₂, sym, ◌∙◌, bit_and, pow_below}
use Rattle.ados_map.proofs.BitLemmas.{marked-is}
use Rattle.ados_validate.proofs.old_bitmap.OldBitmap.is_free.Goals as goal

-- 1 shifted by fewer than 32 bits
shifted : (i : ℕ) → i < 32 → 1 * 2 ^ i % 4294967296 ≡ 2 ^ i
shifted i lt = omega (arith, pow_below i 32 lt)

pub returns : goal.returns
returns c =
    ap₂ (λ (v m : ℕ). not (eqb (bit_and v m) 0)) c.long-bits.ensures (shifted ((c.args.block - 2) % 32) (omega arith)) ∙ sym (marked-is c.args.self.now c.args.block)
