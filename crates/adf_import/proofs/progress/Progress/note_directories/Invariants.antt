use Rattle.std.proofs.Common.{Bool}
use Rattle.adf_import.proofs.Common.{All, HasEntryKey, KeepsKeys, PutsInTurn}
use Rattle.adf_import.proofs.progress.Progress.note_directories.Given as goal

-- each new directory is still an entry, every entry and directory of the volume is still one, and some are described
abbrev pub invariant-loop-made : goal.invariant-loop-made
invariant-loop-made l = record {
  made : All (λ made. HasEntryKey l.volume.image made.key) l.fn.self.made.items;
  keeps : KeepsKeys l.initial.volume.image l.volume.image;
  puts : (force : Bool) → PutsInTurn l.moment force l.initial.volume l.volume;
}
