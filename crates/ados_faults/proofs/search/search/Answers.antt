use Rattle.ados_faults.proofs.Common.{List, length, subst, Step, AreLookedAt, AreStillNoted}
use Rattle.ados_faults.proofs.AtSteps.{AreStepsNoted}
use Rattle.ados_faults.proofs.Cells.{noted_on}
use Rattle.ados_faults.proofs.Each.{each_noted}
use Rattle.ados_faults.proofs.search.search.Goals as goal

pub returns-clause-searched : goal.returns-clause-searched
returns-clause-searched c =
    let image = c.args.image.now in
    let last = c.look_at_disk.new.notes.cells.items in
    let after_further : AreStillNoted c.look_further.new.notes.cells.items last = c.look_at_disk.ensures.stays in
    let after_looks = noted_on c.in_ok-look_further.ensures.stays after_further in
    let steps : AreStepsNoted image last = record {
      walked = c.in_ok-walk.walk.notes.cells.items;
      looked = c.look_at_all.new.notes.cells.items;
      steps = c.in_ok-walk.walk.steps.items;
      covered = c.in_ok-walk.ensures.covered;
      twice = c.in_ok-walk.ensures.twice;
      outside = c.in_ok-walk.ensures.outside;
      after_walk = noted_on c.look_at_all.ensures.stays after_looks;
      looks = subst (λ (xs : List Step). AreLookedAt image c.look_at_all.new.notes.cells.items xs (length xs)) c.deref.ensures.value c.look_at_all.ensures.looked;
      after_looks = after_looks;
    } in
    record {
      noted = c.look_at_disk.ensures.noted;
      each = λ kind block. each_noted image c.in_ok-walk.ensures.walked.whole last (record {
        filed = c.look_further.new.notes.cells.items;
        files = c.in_ok-look_further.ensures.files;
        after_files = after_further;
        named = c.look_further.new.notes.cells.items;
        names = c.in_ok-look_further.ensures.names;
        after_names = after_further;
        disk = c.look_at_disk.ensures.whole;
      }) steps kind block;
    }
