use Rattle.ados_faults.proofs.Common.{rules, List, [], ◌∷◌, ◌++◌, ap, ◌∙◌, Step, root_step}
use Rattle.ados_faults.proofs.Doubles.{started}
use Rattle.ados_faults.proofs.walk.Walk.start.Goals as goal

pub returns : goal.returns
returns c =
    started c.args.image.now c.blocks-2.ensures.image c.in_ok-notes.notes.cells.items c.in_ok-marks.marks.items c.in_ok-roles.roles.cells.items c.root-root.result c.push.new.self.items
    c.in_ok-notes.ensures (search rules) c.in_ok-roles.ensures c.root-root.ensures (c.in_ok-push.ensures.items ∙ ap (λ (xs : List Step). xs ++ root_step c.root-root.result ∷ []) c.new-steps.ensures.items)
