use Rattle.std.proofs.Common.{◌≡◌}
use Rattle.adf_import.proofs.Common.{IsReady, KeepsKeys, PutsInTurn}
use Rattle.adf_import.proofs.adding.add.Given as goal

-- files and directories are put, every directory and entry is still one, and more can be put into the top directory
abbrev pub invariant-loop-entry : goal.invariant-loop-entry
invariant-loop-entry g l = record {
  ready : IsReady l.volume.image l.adding.top l.adding.progress;
  keeps : KeepsKeys l.initial.volume.image l.volume.image;
  how : l.adding.how ≡ l.how;
  puts : PutsInTurn l.how.moment l.how.force l.initial.volume l.volume;
}
