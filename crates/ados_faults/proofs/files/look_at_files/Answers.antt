use Rattle.ados_faults.proofs.Common.{rules, inr, List, ℕ, get_or, sym, subst, arith, All, Contains, slice_get-get_or, FILE_TYPE, IsOfType, IsFileNoted}
use Rattle.ados_faults.proofs.ByHeaders.{none_seen}
use Rattle.ados_faults.proofs.Cells.{noted_on}
use Rattle.ados_faults.proofs.FileNotes.{file_of, file_on}
use Rattle.ados_faults.proofs.TailNotes.{none_known}
use Rattle.ados_faults.proofs.Firsts.{all_firsts, one_more}
use Rattle.ados_faults.proofs.files.look_at_files.Goals as goal

pub loop-file-init : goal.loop-file-init
loop-file-init c = record {
  noted = c.requires.noted;
  stays = record { stay = λ cell e. e };
  met = c.in_ok-headers.ensures;
  seen = none_seen c.args.image.now c.args.notes.now.cells.items _ (search rules);
  tails = none_known c.args.image.now c.args.notes.now.cells.items _ (search rules);
  each = λ k file l e. absurd (omega (arith, l));
}

pub look_at_file-requires-clause-file : goal.look_at_file-requires-clause-file
look_at_file-requires-clause-file c =
    let files = c.deref-file-items.result.now in
    let n = c.loop-file.file-index in
    file_of c.args.image.now (get_or files n 0) (subst (All (IsOfType c.args.image.now FILE_TYPE)) (sym c.deref-file-items.ensures.value) c.in_ok-files.ensures.typed n 0 c.loop-file-test.true)

pub loop-file-preserved : goal.loop-file-preserved
loop-file-preserved c =
    let image = c.args.image.now in
    let files = c.deref-file-items.result.now in
    let n = c.loop-file.file-index in
    let done = c.look_at_file.ensures in
    let before = c.loop-file.invariant in
    let old = c.loop-file.notes.cells.items in
    let new = c.look_at_file.new.notes.cells.items in
    record {
      noted = done.noted;
      stays = noted_on before.stays done.stays;
      met = c.in_ok-list.ensures.met;
      seen = done.seen;
      tails = done.tails;
      each = one_more files (IsFileNoted image old) (IsFileNoted image new) n (get_or files n 0) (slice_get-get_or files n 0 c.loop-file-test.true) (file_on image old new done.stays) done.whole before.each;
    }

pub returns-clause-whole : goal.returns-clause-whole
returns-clause-whole c =
    let image = c.args.image.now in
    record {
      noted = λ file f.
          all_firsts c.deref-file-items.result.now (IsFileNoted image c.loop-file.notes.cells.items) c.loop-file.file-index c.loop-file-test.false c.loop-file.invariant.each file
          (subst (λ (xs : List ℕ). Contains xs file) (sym c.deref-file-items.ensures.value) (c.in_ok-files.ensures.each file (inr (f.dir, f.slot_of_chain, f.reached, f.secondary))));
    }
