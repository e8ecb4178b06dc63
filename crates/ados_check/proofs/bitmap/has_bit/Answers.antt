use Rattle.ados_check.proofs.Common.{◌≡◌, ℕ, ◌-◌, ◌*◌, ◌%◌, ◌^◌, ◌<◌, not, eqb, ap, ap₂, sym, ◌∙◌, subst, arith, long, map_long, page_of, pages_of, Tells, bit_and}
use Rattle.std.proofs.lemmas.Nat.{pow_below}
use Rattle.ados_map.proofs.BitLemmas.{marked-is}
use Rattle.ados_check.proofs.bitmap.has_bit.Goals as goal

-- 1 shifted by fewer than 32 bits
shifted : (i : ℕ) → i < 32 → 1 * 2 ^ i % 4294967296 ≡ 2 ^ i
shifted i lt = omega (arith, pow_below i 32 lt)

pub long-bits-requires-clause-told : goal.long-bits-requires-clause-told
long-bits-requires-clause-told c =
    let within : page_of c.args.block < pages_of c.args.source.now.bytes = omega (arith, c.requires.inside.0, c.requires.inside.1) in
    subst (λ (b : ℕ). Tells c.args.source.now b (map_long c.args.block)) (sym c.requires.page) (c.requires.told.page (page_of c.args.block) (map_long c.args.block) within)

pub returns : goal.returns
returns c =
    let image = c.args.source.now.bytes in
    let bits = c.long-bits.ensures ∙ ap (λ (b : ℕ). long image b (map_long c.args.block)) c.requires.page in
    ap₂ (λ (v m : ℕ). not (eqb (bit_and v m) 0)) bits (shifted ((c.args.block - 2) % 32) (omega arith)) ∙ sym (marked-is image c.args.block)
