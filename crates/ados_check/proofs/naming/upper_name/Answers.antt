use Rattle.ados_check.proofs.Common.{◌≡◌, ◌<◌, ◌+◌, ℕ, zero, suc, ◌∷◌, replicate, slice_index, refl, ◌∙◌, subst, arith, byte_at, upper}
use Rattle.ados_check.proofs.UpperNames.{name_is}
use Rattle.ados_check.proofs.naming.upper_name.Goals as goal

zeros : (n k : ℕ) → slice_index (replicate n 0) k ≡ 0
zeros (suc n) (suc k) = zeros n k
zeros _ _ = refl

zeros_behind : (len k : ℕ) → 0 < k → slice_index (len ∷ replicate 30 0) k ≡ 0
zeros_behind len zero l = absurd (omega (arith, l))
zeros_behind len (suc k) l = zeros 30 k

pub loop-i-init : goal.loop-i-init
loop-i-init c = record {
  size = refl;
  first = refl;
  text = λ k l. absurd (omega (arith, l));
  rest = zeros_behind c.byte-len.result;
}

pub returns : goal.returns
returns c =
    let whole : c.loop-i.i ≡ byte_at c.args.source.now.bytes c.args.block 432 = omega (arith, c.loop-i-test.false, c.loop-i.auto.i-end, c.from-i-end.ensures, c.byte-len.ensures) in
    name_is c.args.source.now.bytes c.args.block c.loop-i.name c.requires.image c.requires.inside c.requires.short c.loop-i.invariant.size
    (c.loop-i.invariant.first ∙ c.byte-len.ensures)
    (subst (λ (n : ℕ). (k : ℕ) → k < n → slice_index c.loop-i.name (k + 1) ≡ upper (byte_at c.args.source.now.bytes c.args.block (433 + k))) whole c.loop-i.invariant.text)
    (subst (λ (n : ℕ). (k : ℕ) → n < k → slice_index c.loop-i.name k ≡ 0) whole c.loop-i.invariant.rest)
