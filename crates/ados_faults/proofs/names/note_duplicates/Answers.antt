use Rattle.ados_faults.proofs.Common.{rules, List, ℕ, length, drop, get_or, sym, subst, arith, All, Contains, take_at, slice_get-get_or, DIRECTORY_TYPE, IsOfType, AreNamesMet, AreNamesNoted}
use Rattle.ados_faults.proofs.Cells.{noted_on}
use Rattle.ados_faults.proofs.Firsts.{all_firsts, one_more}
use Rattle.ados_faults.proofs.Sameness.{all_duplicates, duplicates_on, holder_of, listed_noted, listed_none, names_none, names_of_listed}
use Rattle.ados_faults.proofs.names.note_duplicates.Goals as goal

pub loop-dir-init : goal.loop-dir-init
loop-dir-init c = record {
  noted = c.requires.noted;
  stays = record { stay = λ cell e. e };
  met = names_none c.args.image.now c.in_ok-met.met.items (search rules);
  entries = c.in_ok-entries.ensures.met;
  listed = listed_none c.args.image.now c.args.notes.now.cells.items c.in_ok-entries.entries.list.items c.in_ok-entries.ensures.none;
  each = λ k dir l e. absurd (omega (arith, l));
}

pub list_entries-requires-clause-holder : goal.list_entries-requires-clause-holder
list_entries-requires-clause-holder c =
    let dirs = c.deref-dir-items.result.now in
    let n = c.loop-dir.dir-index in
    holder_of c.args.image.now (get_or dirs n 0) (subst (All (IsOfType c.args.image.now DIRECTORY_TYPE)) (sym c.deref-dir-items.ensures.value) c.in_ok-dirs.ensures.typed n 0 c.loop-dir-test.true)

pub loop-dir-preserved : goal.loop-dir-preserved
loop-dir-preserved c =
    let image = c.args.image.now in
    let dirs = c.deref-dir-items.result.now in
    let n = c.loop-dir.dir-index in
    let done = c.note_names.ensures in
    let before = c.loop-dir.invariant in
    let old = c.loop-dir.notes.cells.items in
    let new = c.note_names.new.notes.cells.items in
    let met = c.note_names.new.met in
    record {
      noted = done.noted;
      stays = noted_on before.stays done.stays;
      met = subst (AreNamesMet image) (sym (take_at met (drop (length met) c.loop-dir.met.items) c.loop-dir.met.len (omega (arith, done.met.size, before.met.size, c.loop-dir.met.ok.0)))) done.met;
      entries = c.in_ok-list_entries.ensures.met;
      listed = listed_noted image new (get_or dirs n 0) c.list_entries.new.entries.list.items c.in_ok-list_entries.ensures.all c.in_ok-list_entries.ensures.closed done.whole;
      each = one_more dirs (AreNamesNoted image old) (AreNamesNoted image new) n (get_or dirs n 0) (slice_get-get_or dirs n 0 c.loop-dir-test.true) (λ dir. duplicates_on image old new dir done.stays) done.whole before.each;
    }

pub returns-clause-whole : goal.returns-clause-whole
returns-clause-whole c =
    let image = c.args.image.now in
    all_duplicates image c.loop-dir.notes.cells.items (λ dir typed.
    all_firsts c.deref-dir-items.result.now (AreNamesNoted image c.loop-dir.notes.cells.items) c.loop-dir.dir-index c.loop-dir-test.false c.loop-dir.invariant.each dir
    (subst (λ (xs : List ℕ). Contains xs dir) (sym c.deref-dir-items.ensures.value) (c.in_ok-dirs.ensures.each dir typed)))

pub loop-dir-preserved-then-starts_in : goal.loop-dir-preserved-then-starts_in
loop-dir-preserved-then-starts_in c =
    let image = c.args.image.now in
    let dirs = c.deref-dir-items.result.now in
    let n = c.loop-dir.dir-index in
    let before = c.loop-dir.invariant in
    let cells = c.loop-dir.notes.cells.items in
    record {
      noted = before.noted;
      stays = before.stays;
      met = before.met;
      entries = before.entries;
      listed = before.listed;
      each = one_more dirs (AreNamesNoted image cells) (AreNamesNoted image cells) n (get_or dirs n 0) (slice_get-get_or dirs n 0 c.loop-dir-test.true) (λ dir noted. noted)
          (names_of_listed image cells (get_or dirs n 0) c.loop-dir.entries.list.items before.listed (c.starts_in.ensures c.if-starts_in.true)) before.each;
    }
