use Rattle.adf_text.proofs.Common.{◌++◌, None, Some, sym, ap, ◌∙◌, Decides-eqb, strip_prefix_is}
use Rattle.adf_text.proofs.DatedLemmas.{finds-raw, finds-civil}
use Rattle.adf_text.proofs.leading_date.found_date.Goals as goal

pub returns-in-Some : goal.returns-in-Some
returns-in-Some c =
    let stands = strip_prefix_is Decides-eqb c.args.text.now c.as_slice.result.now (Some c.in-Some.numbers) c.in-Some.ensures.cases in
    finds-raw c.args.text.now c.in-Some.numbers.now c.found_numbers.result (stands ∙ ap (λ x. x ++ c.in-Some.numbers.now) c.as_slice.ensures) c.found_numbers.ensures

pub returns-in-None : goal.returns-in-None
returns-in-None c =
    let none = strip_prefix_is Decides-eqb c.args.text.now c.as_slice.result.now None c.in-None.ensures.cases in
    finds-civil c.args.text.now c.found_civil.result (λ rest is. none rest (is ∙ ap (λ x. x ++ rest) (sym c.as_slice.ensures))) c.found_civil.ensures
