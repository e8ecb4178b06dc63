use Rattle.std.proofs.Common.{ℕ, ◌+◌, ◌*◌, ◌<◌, List, length, false, ◌∙◌, subst, arith}
use Rattle.std.proofs.lemmas.List.{get_or_default}
use Rattle.ados_census.specs.steps.Reaching.{AreCells}
use Rattle.ados_census.proofs.Reaching.{cell_told}
use Rattle.ados_census.proofs.reached.Reached.has_in_form.Goals as goal

pub returns : goal.returns
returns c =
    let cells = c.self.inside.cells.items in
    let all = subst (λ (image : List ℕ). AreCells image cells) c.self.view_is c.self.invariant in
    let at = 4 * c.args.block + c.args.form in
    let within : at < length cells = omega (arith, c.requires.inside, c.requires.few, all.size) in
    cell_told c.args.self.now cells c.args.block all c.args.form c.requires.few c.index.result.now (c.index.ensures ∙ get_or_default cells at c.index.result.now false within)
