use Rattle.adf_script.proofs.Common.{◌≡◌, true, false}
use Rattle.std.specs.Prelude.{pos}
use Rattle.adf_script.specs.steps.Reading.{text_fits}
use Rattle.adf_script.proofs.FieldLemmas.{text_read, text_too_long}
use Rattle.adf_script.proofs.fields.read_text.Goals as goal

pub returns-then-not-fits : goal.returns-then-not-fits
returns-then-not-fits c = λ values.
    let long : text_fits c.args.kind c.in-Some.text.now ≡ false = cc
    in text_too_long values c.args.kind c.args.rest.now c.in_ok-found.found.now c.in_ok-found.ensures (record { number = 0; signed = pos 0; text = c.in-Some.text }) c.in-Some.behind.now c.in-Some.ensures.0 c.in-Some.ensures.1 long

pub returns : goal.returns
returns c = λ values.
    let fits : text_fits c.args.kind c.in-Some.text.now ≡ true = cc
    in text_read values c.args.kind c.args.rest.now c.in_ok-found.found.now c.in_ok-found.ensures (record { number = 0; signed = pos 0; text = c.in-Some.text }) c.in-Some.behind.now c.in-Some.ensures.0 c.in-Some.ensures.1 fits
