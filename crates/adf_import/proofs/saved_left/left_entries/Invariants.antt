use Rattle.adf_import.proofs.Common.{Stands, Tree}
use Rattle.adf_import.proofs.SavedLeft.{AreToldBelow}
use Rattle.adf_import.proofs.saved_left.left_entries.Given as goal

-- each entry before this one is there, or it is left out for its reason
abbrev pub invariant-loop-place : goal.invariant-loop-place
invariant-loop-place l = (t : Tree) → Stands l.volume.image t → AreToldBelow t l.salvage l.plan.own l.left.items l.place
