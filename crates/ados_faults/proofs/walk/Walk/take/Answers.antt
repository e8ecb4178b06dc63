use Rattle.ados_faults.proofs.Common.{refl, arith, List, [], ◌∷◌, ◌++◌, sym, subst, Taken, Step, AreCoveredBy, step_of, IsWalked}
use Rattle.ados_faults.proofs.Closing.{backed_push, kept_push, pushed_there, took}
use Rattle.ados_faults.proofs.Covering.{covered_here}
use Rattle.ados_faults.proofs.walk.Walk.take.Goals as goal

pub returns-clause-walked : goal.returns-clause-walked
returns-clause-walked c =
    let self = c.args.self.now in
    let there = pushed_there self.steps.items (step_of c.args.block c.args.role) in
    subst (IsWalked c.args.image.now self.notes.cells.items self.marks.items c.take.new.self.cells.items) (sym c.in_ok-push.ensures.items)
    (took c.args.image.now self.notes.cells.items self.marks.items self.roles.cells.items self.steps.items c.requires.walked c.args.block c.take.new.self.cells.items c.args.role c.requires.inside c.requires.reached
    c.take.ensures.size
    (c.take.ensures.backed (self.steps.items ++ step_of c.args.block c.args.role ∷ [])
    (backed_push c.args.image.now self.notes.cells.items self.marks.items self.roles.cells.items self.steps.items c.requires.walked c.args.block (step_of c.args.block c.args.role)) there))

pub returns-clause-kept : goal.returns-clause-kept
returns-clause-kept c = kept_push c.args.self.now _ (step_of c.args.block c.args.role) c.in_ok-push.ensures.items (λ cell e. e) (λ block mark e. e)

pub returns-clause-covered : goal.returns-clause-covered
returns-clause-covered c =
    subst (λ (xs : List Step). AreCoveredBy xs c.args.block c.args.role) (sym c.in_ok-push.ensures.items)
    (covered_here (c.args.self.now.steps.items ++ step_of c.args.block c.args.role ∷ []) c.args.block c.args.role (pushed_there c.args.self.now.steps.items (step_of c.args.block c.args.role)))

pub returns-then-not-take-clause-walked : goal.returns-then-not-take-clause-walked
returns-then-not-take-clause-walked c =
    let self = c.args.self.now in
    subst (λ (xs : List Taken). IsWalked c.args.image.now self.notes.cells.items self.marks.items xs self.steps.items) (sym (c.take.ensures.same c.if-not-take.true)) c.requires.walked

pub returns-then-not-take-clause-kept : goal.returns-then-not-take-clause-kept
returns-then-not-take-clause-kept c = record { notes_stay = λ cell e. e; marks_stay = λ block mark e. e; longer = omega arith; steps_stay = λ k l. refl }

pub returns-then-not-take-clause-covered : goal.returns-then-not-take-clause-covered
returns-then-not-take-clause-covered c = c.take.ensures.covered c.if-not-take.true c.args.self.now.steps.items c.requires.walked.backed
