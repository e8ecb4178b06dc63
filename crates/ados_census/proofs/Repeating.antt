-- A text again and again: its first bytes, and then each byte as that of the text before it.
use Rattle.std.proofs.Common.{◌≡◌, ℕ, zero, suc, ◌+◌, ◌-◌, ◌*◌, ◌/◌, ◌%◌, ◌<◌, ◌≤◌, inl, inr, List, length, slice_index, sym, ap, ◌∙◌, subst, arith, add-mul, one-mul, div-add-mod'}
use Rattle.std.proofs.lemmas.Bool.{cases_lt}
use Rattle.std.proofs.lemmas.Nat.{mod-mul-add, mod_below}
use Rattle.ados_census.specs.Fillers.{RepeatsFrom}
use Rattle.ados_census.specs.steps.Periods.{BeginsFrom, HasPeriod}

-- a whole turn leaves the remainder
turn : (k n : ℕ) → 0 < n → (k + n) % n ≡ k % n
turn k n p =
    let split : (k / n + 1) * n + k % n ≡ k + n = omega (arith, div-add-mod' k n, add-mul (k / n) 1 n, one-mul n) in
    ap (λ (m : ℕ). m % n) (sym split) ∙ mod-mul-add (k / n + 1) n (k % n) (mod_below k n p)

module _ (text bytes : List ℕ) (start : ℕ) (some : start < length text) where
  turned : (i : ℕ) → (start + (i + length text)) % length text ≡ (start + i) % length text
  turned i =
      let grouped : start + (i + length text) ≡ start + i + length text = omega arith in
      ap (λ (m : ℕ). m % length text) grouped ∙ turn (start + i) (length text) (omega (arith, some))

  -- the bytes up to byte k
  up_to : BeginsFrom text bytes start → HasPeriod bytes (length text) → (k i : ℕ) → i ≤ k → i < length bytes → slice_index bytes i ≡ slice_index text ((start + i) % length text)
  up_to front again zero i l m = front i m (omega (arith, l, some))
  up_to front again (suc k) i l m = elim (cases_lt i (length text)) [
    | inl before ↦ front i m before
    | inr behind ↦
        let back : i - length text + length text ≡ i = omega (arith, behind) in
        let earlier = up_to front again k (i - length text) (omega (arith, l, some, behind)) (omega (arith, m)) in
        subst (λ (x : ℕ). slice_index bytes x ≡ slice_index text ((start + x) % length text)) back
        (again (i - length text) (omega (arith, m, back)) ∙ earlier ∙ ap (slice_index text) (sym (turned (i - length text))))
  ]

  pub repeats : BeginsFrom text bytes start → HasPeriod bytes (length text) → RepeatsFrom text bytes start
  repeats front again i l = up_to front again i i (omega arith) l

  pub begins : RepeatsFrom text bytes start → BeginsFrom text bytes start
  begins all i l m = all i l

  pub comes_again : RepeatsFrom text bytes start → HasPeriod bytes (length text)
  comes_again all i l = all (i + length text) l ∙ ap (slice_index text) (turned i) ∙ sym (all i (omega (arith, l)))
