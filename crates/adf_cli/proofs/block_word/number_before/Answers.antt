use Rattle.std.proofs.Common.{◌∷◌, drop, None, Some, sym, ap, ◌∙◌}
use Rattle.std.proofs.lemmas.Str.Pattern.{strip_prefix_char}
use Rattle.adf_cli.proofs.Naming.{before_dot}
use Rattle.adf_cli.proofs.block_word.number_before.Goals as goal

pub returns-in_err-number : goal.returns-in_err-number
returns-in_err-number c = λ number rest small low is. absurd (before_dot c.args.text.now (c.args.letter ∷ rest) number None c.in_err-number.ensures.cases small is)

pub returns-in_err-rest : goal.returns-in_err-rest
returns-in_err-rest c = λ number rest small low is.
    let cut = before_dot c.args.text.now (c.args.letter ∷ rest) number (Some (c.in_ok-number.number, c.in_ok-number.behind)) c.in_ok-number.ensures.cases small is in
    absurd (strip_prefix_char c.args.letter c.in_ok-number.behind.now None c.in_err-rest.ensures.cases low rest cut.1)

pub returns-in_err-read_number : goal.returns-in_err-read_number
returns-in_err-read_number c = λ number rest small low is.
    let cut = before_dot c.args.text.now (c.args.letter ∷ rest) number (Some (c.in_ok-number.number, c.in_ok-number.behind)) c.in_ok-number.ensures.cases small is in
    absurd (c.in_err-read_number.ensures number small cut.0)

pub returns : goal.returns
returns c = λ number rest small low is.
    let cut = before_dot c.args.text.now (c.args.letter ∷ rest) number (Some (c.in_ok-number.number, c.in_ok-number.behind)) c.in_ok-number.ensures.cases small is in
    let behind = strip_prefix_char c.args.letter c.in_ok-number.behind.now (Some c.in_ok-rest.rest) c.in_ok-rest.ensures.cases low in
    (c.in_ok-read_number.ensures number small cut.0, ap (drop 1) (sym behind ∙ cut.1))
