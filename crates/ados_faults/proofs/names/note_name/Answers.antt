use Rattle.ados_faults.proofs.Common.{sym, ap, ◌∙◌, same_Some, named_of, Named}
use Rattle.ados_faults.proofs.Sameness.{met_here, name_met, names_kept, names_more}
use Rattle.ados_faults.proofs.names.note_name.Goals as goal
use Rattle.ados_faults.proofs.names.note_name.Goals.{in_default-via-in-Some+else-named-dir, in_default-via-in_default}

pub note_both-requires-clause-other : goal.note_both-requires-clause-other
note_both-requires-clause-other c =
    c.requires.met.entry c.args.name (named_of c.args.dir c.in-Some.named.block) (met_here c.args.image.now c.args.met.now c.args.dir c.args.block c.args.name c.requires.met c.requires.name c.in-Some.named c.in-Some.is c.if-named-dir.true)

pub note_both-requires-clause-other_short : goal.note_both-requires-clause-other_short
note_both-requires-clause-other_short c =
    (c.requires.met.named c.args.name (named_of c.args.dir c.in-Some.named.block) (met_here c.args.image.now c.args.met.now c.args.dir c.args.block c.args.name c.requires.met c.requires.name c.in-Some.named c.in-Some.is c.if-named-dir.true)).short

pub note_both-requires-clause-same : goal.note_both-requires-clause-same
note_both-requires-clause-same c =
    c.requires.name.same
    ∙ sym (c.requires.met.named c.args.name (named_of c.args.dir c.in-Some.named.block) (met_here c.args.image.now c.args.met.now c.args.dir c.args.block c.args.name c.requires.met c.requires.name c.in-Some.named c.in-Some.is c.if-named-dir.true)).same

pub returns-in-Some-clause-here : goal.returns-in-Some-clause-here
returns-in-Some-clause-here c = record {
  other = c.in-Some.named.block;
  found = met_here c.args.image.now c.args.met.now c.args.dir c.args.block c.args.name c.requires.met c.requires.name c.in-Some.named c.in-Some.is c.if-named-dir.true;
  here = c.note_both.ensures.block;
  there = c.note_both.ensures.other;
}

pub returns-in_default-clause-met : goal.returns-in_default-clause-met
returns-in_default-clause-met c = names_more c.args.image.now c.args.met.now c.args.dir c.args.block c.args.name c.requires.met c.requires.name c.requires.entry

pub returns-in_default-clause-kept : goal.returns-in_default-clause-kept
returns-in_default-clause-kept c =
    names_kept c.args.image.now c.args.met.now c.args.dir c.args.block c.args.name c.requires.met c.requires.name (λ other e. elim c.in_default.branch [
      | in_default-via-in-Some+else-named-dir w ↦ w.if-named-dir.false (ap (λ (n : Named). n.dir) (same_Some w.in-Some.named (named_of c.args.dir other) (sym w.in-Some.is ∙ e)))
      | in_default-via-in_default w ↦ w.in_default.not-Some (named_of c.args.dir other) e
    ])

pub returns-in_default-clause-here : goal.returns-in_default-clause-here
returns-in_default-clause-here c = name_met c.args.image.now c.args.met.now c.args.dir c.args.block c.args.name c.requires.met c.requires.name c.args.notes.now.cells.items
