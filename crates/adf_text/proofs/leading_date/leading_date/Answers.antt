use Rattle.adf_text.proofs.Common.{◌++◌, sym, ap, ◌∙◌, string_bytes}
use Rattle.adf_text.proofs.DatedLemmas.{no-date}
use Rattle.adf_text.proofs.leading_date.leading_date.Goals as goal

pub returns-in-Some-after_word-clause-found : goal.returns-in-Some-after_word-clause-found
returns-in-Some-after_word-clause-found c = record {
  shown = string_bytes c.in_ok-shown.shown;
  dated = c.in_ok-shown.ensures;
  stands = c.in-Some-after_word.ensures.stands ∙ ap (λ x. x ++ c.in-Some-after_word.behind.now) c.as_bytes.ensures.value;
  apart = c.in-Some-after_word.ensures.apart;
}

pub returns-clause-found : goal.returns-clause-found
returns-clause-found c =
    no-date c.args.text.now (string_bytes c.in_ok-shown.shown) c.in-Some.date
    (λ behind apart is. c.in-None.ensures.none behind apart (is ∙ ap (λ x. x ++ behind) (sym c.as_bytes.ensures.value)))
    c.in_ok-shown.ensures
    (λ date behind stamp begins. c.in-Some.ensures date behind stamp begins)
