use Rattle.ados_name.proofs.Common.{rules, sym, append_assoc, ◌∙◌}
use Rattle.std.proofs.lemmas.Result.{IfOk-weaker}
use Rattle.ados_name.proofs.DateLemmas.{civil_text-written}
use Rattle.ados_name.proofs.stamp.Date3.text.Goals as goal

pub returns-then-not-has_civil_text : goal.returns-then-not-has_civil_text
returns-then-not-has_civil_text c = rw (sym c.if-not-has_civil_text.ensures) (IfOk-weaker c.format.result _ _ (λ s e. simp append_assoc e) c.format.ensures.ok)

pub returns : goal.returns
returns c =
    let date = c.civil_date-date.result in
    let written = civil_text-written date c.args.self.minutes c.args.self.ticks (search rules) (search rules) in
    rw (sym c.if-not-has_civil_text.ensures)
    (IfOk-weaker c.format-2.result _ _
    (λ s e. (
      date,
      c.civil_date-date.ensures,
      (rw (c.laid_out.ensures, c.laid_out-2.ensures, c.laid_out-3.ensures, c.laid_out-4.ensures) at e) ∙ written,
    ))
    c.format-2.ensures.ok)
