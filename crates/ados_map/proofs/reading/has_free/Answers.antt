use Rattle.ados_map.proofs.Common.{◌≡◌, ◌≤◌, ℕ, leb, MatchBool, inl, inr, ◌∙◌, arith, ones-le, free_bit_count}
use Rattle.std.proofs.lemmas.Bool.Decides.{leb_tells}
use Rattle.ados_map.proofs.Counting.{free_before-below, free_before-more, free_before-all, free_before-le}
use Rattle.ados_map.proofs.reading.has_free.Goals as goal

pub loop-w-init : goal.loop-w-init
loop-w-init c = record {
  counted = free_before-below c.args.image.now c.map_long_of-w.result (λ k inside lt. c.requires.below k inside (omega (arith, lt, inside.0, c.map_long_of-w.ensures)));
  bound = omega arith;
}

pub loop-w-preserved : goal.loop-w-preserved
loop-w-preserved c =
    let more = free_before-more c.args.image.now c.loop-w.w c.free_bits.result c.free_bits.ensures c.free_bits.type_inv in
    record { counted = omega (arith, more); bound = omega (arith, ones-le 32 c.free_bits.result c.free_bits.type_inv) }

pub returns-then-needed-found : goal.returns-then-needed-found
returns-then-needed-found c = omega (arith, c.if-needed-found.true, c.loop-w.invariant.counted, free_before-le c.args.image.now c.loop-w.w)

-- a comparison as the fact that it decides
told : (a b n : ℕ) → b ≡ n → MatchBool (leb a b) (a ≤ n) (¬ (a ≤ n))
told a b n e = elim (leb_tells a b) [
  | inl h ↦ rw h.0 (omega (arith, h.1, e))
  | inr h ↦ rw h.0 (λ l. omega (arith, h.1, e, l))
]

pub returns : goal.returns
returns c =
    told c.args.needed c.loop-w.found (free_bit_count c.args.image.now)
    (c.loop-w.invariant.counted ∙ free_before-all c.args.image.now c.loop-w.w (omega (arith, c.loop-w-test.false, c.map_longs-w-end.ensures.count)))
