use Rattle.std.proofs.Common.{◌≡◌, vec_len}
use Rattle.adf_import.proofs.Common.{Tree, Stands}
use Rattle.adf_import.proofs.Pruning.{AreRemoved, IsPruning}
use Rattle.adf_import.proofs.prune.remove_all.Given as goal

-- these entries are left
abbrev pub invariant-loop-entry : goal.invariant-loop-entry
invariant-loop-entry l = record {
  pruning : (t : Tree) → Stands l.initial.volume.image t → IsPruning t l.key l.initial.below.items l.volume.image l.below.items;
  removed : AreRemoved l.moment l.initial.below.items l.below.items l.initial.volume.image l.volume.image;
  validated : l.volume.was_validated ≡ l.initial.volume.was_validated;
}

abbrev pub decreases-loop-entry : goal.decreases-loop-entry
decreases-loop-entry l = vec_len l.below
