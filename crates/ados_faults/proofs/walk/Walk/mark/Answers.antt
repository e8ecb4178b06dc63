use Rattle.ados_faults.proofs.Common.{◌<◌, ◌≡◌, None, Some, length, refl, arith, ◌∙◌, mark_at, mark_read}
use Rattle.ados_faults.proofs.Closing.{mark_stays, marked_by_it, marked_first, marked_here}
use Rattle.ados_faults.proofs.Doubles.{used_twice}
use Rattle.ados_faults.proofs.walk.Walk.mark.Goals as goal

pub returns-in_default-clause-walked : goal.returns-in_default-clause-walked
returns-in_default-clause-walked c =
    let self = c.args.self.now in
    let there : c.args.block < length self.marks.items = omega (arith, c.requires.inside.1, c.requires.walked.size) in
    let none : mark_at self.marks.items c.args.block ≡ None = mark_read self.marks.items c.args.block c.index.result.now there c.index.ensures ∙ c.in_default.is in
    marked_first c.args.image.now self.notes.cells.items self.marks.items self.roles.cells.items self.steps.items c.requires.walked c.args.block c.args.mark c.requires.inside none c.requires.reached c.requires.named

pub returns-in_default-clause-kept : goal.returns-in_default-clause-kept
returns-in_default-clause-kept c =
    let self = c.args.self.now in
    let there : c.args.block < length self.marks.items = omega (arith, c.requires.inside.1, c.requires.walked.size) in
    let none : mark_at self.marks.items c.args.block ≡ None = mark_read self.marks.items c.args.block c.index.result.now there c.index.ensures ∙ c.in_default.is in
    record {
      notes_stay = λ cell e. e;
      marks_stay = mark_stays c.args.image.now self.notes.cells.items self.marks.items self.roles.cells.items self.steps.items c.requires.walked c.args.block c.args.mark c.requires.inside none;
      longer = omega arith;
      steps_stay = λ k l. refl;
    }

pub returns-in_default-clause-marked : goal.returns-in_default-clause-marked
returns-in_default-clause-marked c =
    let self = c.args.self.now in
    let there : c.args.block < length self.marks.items = omega (arith, c.requires.inside.1, c.requires.walked.size) in
    let none : mark_at self.marks.items c.args.block ≡ None = mark_read self.marks.items c.args.block c.index.result.now there c.index.ensures ∙ c.in_default.is in
    marked_by_it _ c.args.block c.args.mark
    (marked_here c.args.image.now self.notes.cells.items self.marks.items self.roles.cells.items self.steps.items c.requires.walked c.args.block c.args.mark c.requires.inside none)

pub note_if-requires-clause-shown : goal.note_if-requires-clause-shown
note_if-requires-clause-shown c = λ w.
    let marks = c.args.self.now.marks.items in
    let there : c.args.block < length marks = omega (arith, c.requires.inside.1, c.requires.walked.size) in
    let marked : mark_at marks c.args.block ≡ Some c.in-Some.first = mark_read marks c.args.block c.index.result.now there c.index.ensures ∙ c.in-Some.is in
    used_twice c.args.image.now c.args.block c.in-Some.first c.args.mark c.requires.inside (c.requires.walked.met c.args.block c.in-Some.first marked) c.requires.named (c.is_other_place-twice.ensures.0 w)

pub returns-clause-marked : goal.returns-clause-marked
returns-clause-marked c =
    let marks = c.args.self.now.marks.items in
    let there : c.args.block < length marks = omega (arith, c.requires.inside.1, c.requires.walked.size) in
    record {
      first = c.in-Some.first;
      marked = mark_read marks c.args.block c.index.result.now there c.index.ensures ∙ c.in-Some.is;
      twice = λ apart. c.note_if.ensures.set (c.is_other_place-twice.ensures.1 apart);
    }
