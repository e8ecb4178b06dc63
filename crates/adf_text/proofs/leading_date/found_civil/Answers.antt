use Rattle.adf_text.proofs.Common.{◌≡◌, ℕ, Option, None, Some, ◌*◌, ◌/◌, ◌%◌, get_or, length, ap, ◌∙◌, arith, pair, ◌+◌}
use Rattle.adf_text.proofs.DatedLemmas.{civil-parts, length-time, pair-digits}
use Rattle.adf_text.proofs.leading_date.found_civil.Goals as goal

pub returns-in_default : goal.returns-in_default
returns-in_default c = λ date civil behind stamp of few_minutes few_ticks is.
    let found = c.first_word.ensures in
    let parts = civil-parts c.args.text.now c.first_word.result.0.now c.first_word.result.1.now civil date.minutes date.ticks behind found.whole found.word found.apart is in
    let long = ap length parts.1 in
    let time = length-time date.minutes date.ticks behind in
    let short = c.in_default.len_below in
    absurd (omega (arith, long, time, short))

pub returns-in_err-found_day : goal.returns-in_err-found_day
returns-in_err-found_day c = λ date civil behind stamp of few_minutes few_ticks is.
    let found = c.first_word.ensures in
    let parts = civil-parts c.args.text.now c.first_word.result.0.now c.first_word.result.1.now civil date.minutes date.ticks behind found.whole found.word found.apart is in
    let none : ◌≡◌ {A = Option ℕ} None (Some date.days) = c.in_err-found_day.ensures date.days civil stamp.days of parts.0 in
    absurd (cc)

pub returns : goal.returns
returns c = λ date civil behind stamp of few_minutes few_ticks is.
    let found = c.first_word.ensures in
    let parts = civil-parts c.args.text.now c.first_word.result.0.now c.first_word.result.1.now civil date.minutes date.ticks behind found.whole found.word found.apart is in
    let some : ◌≡◌ {A = Option ℕ} (Some c.in_ok-found_day.field-0) (Some date.days) = c.in_ok-found_day.ensures date.days civil stamp.days of parts.0 in
    let days : c.in_ok-found_day.field-0 ≡ date.days = cc in
    let m = date.minutes in
    let t = date.ticks in
    let hours : c.pair.result ≡ m / 60 = c.pair.ensures.value ∙ ap (λ x. pair (get_or x 1 0) (get_or x 2 0)) parts.1 ∙ pair-digits (m / 60) (omega arith) in
    let minutes : c.pair-2.result ≡ m % 60 = c.pair-2.ensures.value ∙ ap (λ x. pair (get_or x 4 0) (get_or x 5 0)) parts.1 ∙ pair-digits (m % 60) (omega arith) in
    let seconds : c.pair-3.result ≡ t / 50 = c.pair-3.ensures.value ∙ ap (λ x. pair (get_or x 7 0) (get_or x 8 0)) parts.1 ∙ pair-digits (t / 50) (omega arith) in
    let hundredths : c.pair-4.result ≡ 2 * (t % 50) = c.pair-4.ensures.value ∙ ap (λ x. pair (get_or x 10 0) (get_or x 11 0)) parts.1 ∙ pair-digits (2 * (t % 50)) (omega arith) in
    let of_minutes : 60 * c.pair.result + c.pair-2.result ≡ m = omega (arith, hours, minutes) in
    let of_ticks : 50 * c.pair-3.result + c.pair-4.result / 2 ≡ t = omega (arith, seconds, hundredths) in
    λ i. Some (record { days = days i; minutes = of_minutes i; ticks = of_ticks i })
