use Rattle.adf_text.proofs.Common.{Option, sym, ap, ◌∙◌, subst, MatchOption, option_or, Date3, HasNoWritten, IsWritten}
use Rattle.adf_text.proofs.WrittenLemmas.{first-written}
use Rattle.adf_text.proofs.written.written_date.Goals as goal

pub returns : goal.returns
returns c =
    let minutes = c.in_ok-minutes.minutes in
    let day = c.in_ok-day.day in
    let first = c.or-3.ensures ∙ ap (λ (o : Option Date3). option_or o day) (c.or-2.ensures ∙ ap (λ (o : Option Date3). option_or o minutes) c.or.ensures) in
    subst (λ (o : Option Date3). MatchOption o (HasNoWritten c.args.text.now) (λ date. IsWritten date c.args.text.now)) (sym first)
    (first-written c.args.text.now c.in_ok-whole.whole c.in_ok-seconds.seconds minutes day c.in_ok-whole.ensures c.in_ok-seconds.ensures c.in_ok-minutes.ensures c.in_ok-day.ensures)
