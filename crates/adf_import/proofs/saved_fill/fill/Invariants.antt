use Rattle.adf_import.proofs.Common.{IsReady}
use Rattle.adf_import.proofs.saved_fill.fill.Given as goal

-- more can be put into the root, and into what was made
abbrev pub invariant-loop-item : goal.invariant-loop-item
invariant-loop-item l = IsReady l.volume.image l.top l.progress
