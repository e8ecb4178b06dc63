use Rattle.adf_text.proofs.Common.{◌≡◌, ℕ, ◌++◌, Option, None, Some, sym, ap, drop, ◌∙◌, decimal}
use Rattle.adf_text.proofs.DatedLemmas.{word-found, All-decimal}
use Rattle.adf_text.proofs.leading_date.found_number.Goals as goal

pub returns-in_err-number : goal.returns-in_err-number
returns-in_err-number c = λ n behind few apart is.
    let text : c.in_ok-text.text.now ≡ decimal n ++ behind = ap (drop 1) (sym c.in_ok-text.ensures.cases.0 ∙ is) in
    let found = word-found c.in_ok-text.text.now c.first_word.result.0.now c.first_word.result.1.now (decimal n) behind c.first_word.ensures.whole c.first_word.ensures.word c.first_word.ensures.apart (All-decimal n few) apart text in
    let none : ◌≡◌ {A = Option ℕ} None (Some n) = c.in_err-number.ensures n few found.0 in
    absurd (cc)

pub returns : goal.returns
returns c = λ n behind few apart is.
    let text : c.in_ok-text.text.now ≡ decimal n ++ behind = ap (drop 1) (sym c.in_ok-text.ensures.cases.0 ∙ is) in
    let found = word-found c.in_ok-text.text.now c.first_word.result.0.now c.first_word.result.1.now (decimal n) behind c.first_word.ensures.whole c.first_word.ensures.word c.first_word.ensures.apart (All-decimal n few) apart text in
    let some : ◌≡◌ {A = Option ℕ} (Some c.in_ok-number.field-0) (Some n) = c.in_ok-number.ensures n few found.0 in
    (cc, found.1)
