use Rattle.std.proofs.Common.{◌≡◌, ◌+◌, ◌*◌, ◌<◌, false, get_or, length, refl, sym, ◌∙◌, arith}
use Rattle.std.proofs.lemmas.List.{get_or_default}
use Rattle.ados_census.proofs.Reaching.{kept_more}
use Rattle.ados_census.proofs.reached.Walk.take.Goals as goal

pub returns-clause-kept : goal.returns-clause-kept
returns-clause-kept c =
    let marks = c.args.self.now.cells.items in
    let here = 4 * c.args.step.block + c.form_of.result in
    let within : 4 * c.args.step.block + c.form_of.result < length c.args.self.now.cells.items = omega (arith, c.requires.walked.size, c.requires.step.inside.1, c.form_of.ensures.few) in
    let free : get_or marks here false ≡ false =
    sym (c.index.ensures ∙ get_or_default marks here c.index.result.now false within) ∙ c.if-index.false in
    kept_more c.args.self.now _ c.args.step here within free refl c.in_ok-push.ensures.items
