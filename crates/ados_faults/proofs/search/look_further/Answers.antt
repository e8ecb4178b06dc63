use Rattle.ados_faults.proofs.Sameness.{duplicates_on}
use Rattle.ados_faults.proofs.search.look_further.Goals as goal

pub returns-clause-names : goal.returns-clause-names
returns-clause-names c = record {
  noted = λ dir. duplicates_on c.args.image.now c.note_duplicates.new.notes.cells.items c.look_at_files.new.notes.cells.items dir c.in_ok-look_at_files.ensures.stays (c.in_ok-note_duplicates.ensures.whole.noted dir);
}
