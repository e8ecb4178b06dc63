use Rattle.adf_import.proofs.Common.{All-weaker, HasEntryKey, Made}
use Rattle.adf_import.specs.Put.PutsInTurn.{a_description, none}
use Rattle.adf_import.proofs.Keeping.{keeps_both, keeps_same}
use Rattle.adf_import.proofs.progress.Progress.note_directories.Goals as goal

pub loop-made-init : goal.loop-made-init
loop-made-init c = record { made = c.requires.made; keeps = keeps_same c.args.volume.now.image; puts = λ force. none }

pub loop-made-preserved : goal.loop-made-preserved
loop-made-preserved c = record {
  made = All-weaker (λ (made : Made). HasEntryKey c.loop-made.volume.image made.key) (λ (made : Made). HasEntryKey c.describe.new.volume.image made.key) (λ made is. c.describe.ensures.keys.entry made.key is)
      c.args.self.made.items c.loop-made.invariant.made;
  keeps = keeps_both c.args.volume.now.image c.loop-made.volume.image c.describe.new.volume.image c.loop-made.invariant.keeps c.describe.ensures.keys;
  puts = λ force. a_description c.made-item.result.key c.noted_file-note.result (c.loop-made.invariant.puts force) c.describe.ensures.goes;
}
