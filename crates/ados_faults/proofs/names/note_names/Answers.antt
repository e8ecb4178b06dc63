use Rattle.ados_faults.proofs.Common.{◌≡◌, ℕ, Option, None, Some, get_or, sym, ap, subst, arith, ◌∙◌, slice_get, same_Some, slice_get-get_or, IsNameMet}
use Rattle.ados_faults.proofs.Cells.{noted_on}
use Rattle.ados_faults.proofs.Sameness.{first_met_more, first_met_none, has_name_of, names_noted}
use Rattle.ados_faults.proofs.names.note_names.Goals as goal

pub loop-entry-init : goal.loop-entry-init
loop-entry-init c = record {
  noted = c.requires.noted;
  stays = record { stay = λ cell e. e };
  named = c.requires.met;
  met = first_met_none c.args.notes.now.cells.items c.args.met.now c.args.first.now c.args.dir c.args.entries.now;
}

pub note_name-requires-clause-name : goal.note_name-requires-clause-name
note_name-requires-clause-name c =
    let first = c.args.first.now in
    let entry = get_or c.args.entries.now c.loop-entry.entry-index 0 in
    let inside = c.requires.inside c.loop-entry.entry-index 0 c.loop-entry-test.true in
    has_name_of c.args.image.now first entry c.in-Some.name c.requires.first (slice_get-get_or first entry None (omega (arith, inside.1, c.requires.first.size)) ∙ ap (λ (o : Option ℕ). Some o) c.in-Some.is)

pub loop-entry-preserved : goal.loop-entry-preserved
loop-entry-preserved c =
    let done = c.note_name.ensures in
    let first = c.args.first.now in
    let n = c.loop-entry.entry-index in
    let entry = get_or c.args.entries.now n 0 in
    let inside = c.requires.inside n 0 c.loop-entry-test.true in
    let at : slice_get first entry ≡ Some (Some c.in-Some.name) = slice_get-get_or first entry None (omega (arith, inside.1, c.requires.first.size)) ∙ ap (λ (o : Option ℕ). Some o) c.in-Some.is in
    record {
      noted = done.noted;
      stays = noted_on c.loop-entry.invariant.stays done.stays;
      named = done.met;
      met = first_met_more c.loop-entry.notes.cells.items c.note_name.new.notes.cells.items c.loop-entry.met c.note_name.new.met first c.args.dir c.args.entries.now n entry
          (slice_get-get_or c.args.entries.now n 0 c.loop-entry-test.true) done.stays done.kept c.loop-entry.invariant.met
          (λ name e. subst (IsNameMet c.note_name.new.notes.cells.items c.note_name.new.met c.args.dir entry) (same_Some c.in-Some.name name (same_Some (Some c.in-Some.name) (Some name) (sym at ∙ e))) done.here);
    }

pub returns-clause-whole : goal.returns-clause-whole
returns-clause-whole c =
    names_noted c.args.image.now c.loop-entry.notes.cells.items c.loop-entry.met c.args.first.now c.args.dir c.args.entries.now c.loop-entry.entry-index c.requires.image c.requires.entries c.requires.first
    c.loop-entry.invariant.met c.loop-entry-test.false
