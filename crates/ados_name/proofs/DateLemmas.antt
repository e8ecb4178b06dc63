-- The day number of 1 January 1978, and numbers of two digits.
use Rattle.ados_name.proofs.Common.{◌≡◌, ℕ, ◌+◌, ◌*◌, ◌/◌, ◌%◌, ◌<◌, pos, List, [], ◌∷◌, ◌++◌, false, refl, arith, ◌-◌, ◌^◌, ◌≤◌, Bool, true, nat_lt, append_assoc, ltb-true, ltb-false, Date, epoch_day, IsYmd, date_text, signed_arith}
use Rattle.std.specs.Fmt.{decimal, padded_integral, format_spec, char_count}
use Rattle.std.proofs.lemmas.Fmt.{decimal_digit, decimal_step}
use Rattle.jiff.proofs.OnLiterals.{jiff_on_literals}
use Rattle.ados_name.specs.Date.{two_digits, civil_text}

pub epoch_day-1978 : (date : Date) → IsYmd (pos 1978) (pos 1) (pos 1) date → epoch_day date ≡ pos 2922
epoch_day-1978 date is =
    let month : date.month ≡ 1 = omega (arith, signed_arith, is.1) in
    let day : date.day ≡ 1 = omega (arith, signed_arith, is.2) in
    rw (is.0, month, day) (unfold jiff_on_literals in refl)

-- the output of `{:02}`
abbrev padded : ℕ → List ℕ
padded n = padded_integral (format_spec 32 0 4 2 (2 ^ 64 - 1)) false [] (decimal n)

padded-two_digits : (n : ℕ) → n < 100 → padded n ≡ two_digits n
unfolding padded_integral char_count
padded-two_digits n small = by (nat_lt n 10) refl
  where
    by : (b : Bool) → nat_lt n 10 ≡ b → padded n ≡ two_digits n
    by true is =
        let below : n < 10 = ltb-true n 10 is in
        let tens : 0 ≡ n / 10 = omega arith in
        let ones : n ≡ n % 10 = omega arith in
        rw (decimal_digit n below) (λ i. (48 + tens i) ∷ (48 + ones i) ∷ [])
    by false is =
        let above : 10 ≤ n = ltb-false n 10 is in
        let tens : n / 10 < 10 = omega arith in
        rw (decimal_step n above (omega arith), decimal_digit (n / 10) tens) refl

-- the output of `{date} {:02}:{:02}:{:02}.{:02}` for the parts of a time
pub civil_text-written : (date : Date) (minutes ticks : ℕ) → minutes < 1440 → ticks < 3000
    → date_text date ++ (32 ∷ (padded (minutes / 60) ++ (58 ∷ (padded (minutes % 60) ++ (58 ∷ (padded (ticks / 50) ++ (46 ∷ padded (2 * (ticks % 50)))))))))
    ≡ civil_text date minutes ticks
civil_text-written date minutes ticks few_minutes few_ticks =
    rw (
      padded-two_digits (minutes / 60) (omega arith),
      padded-two_digits (minutes % 60) (omega arith),
      padded-two_digits (ticks / 50) (omega arith),
      padded-two_digits (2 * (ticks % 50)) (omega arith),
    )
    (simp append_assoc refl)
