use Rattle.ados_name.proofs.Common.{sym, ◌∙◌, rules}
use Rattle.ados_name.proofs.PathLemmas.{next-end, next-parent, next-child}
use Rattle.ados_name.proofs.path.PathStepsIterator.next.Goals as goal

pub returns-then-is_empty-clause-steps : goal.returns-then-is_empty-clause-steps
returns-then-is_empty-clause-steps c =
    let end = sym c.self.view_is ∙ next-end c.self.inside.rest.now (sym c.if-is_empty.ensures) in (end, end)

pub returns-then-is_empty-2-clause-steps : goal.returns-then-is_empty-2-clause-steps
returns-then-is_empty-2-clause-steps c =
    sym c.self.view_is ∙ next-parent c.self.inside.rest.now c.split_component.result.0.now c.split_component.result.1.now
    (sym c.if-is_empty.ensures) c.split_component.ensures.component c.split_component.ensures.rest (sym c.if-is_empty-2.ensures)

pub returns-then-is_empty-2-clause-goes : goal.returns-then-is_empty-2-clause-goes
returns-then-is_empty-2-clause-goes c =
    let step = returns-then-is_empty-2-clause-steps c in
    rw step (search rules)

pub returns-clause-steps : goal.returns-clause-steps
returns-clause-steps c =
    sym c.self.view_is ∙ next-child c.self.inside.rest.now c.split_component.result.0.now c.split_component.result.1.now
    (sym c.if-is_empty.ensures) c.split_component.ensures.component c.split_component.ensures.rest (sym c.if-is_empty-2.ensures)

pub returns-clause-goes : goal.returns-clause-goes
returns-clause-goes c =
    let step = returns-clause-steps c in
    rw step (search rules)
