use Rattle.std.proofs.Common.{◌≡◌, ℕ, ◌<◌, false, get_or}
use Rattle.adf_import.proofs.Common.{Tree, Stands}
use Rattle.adf_import.proofs.Denying.{denies}
use Rattle.adf_import.proofs.prune.first_denied.Given as goal

-- the protection bits of those before allow it
abbrev pub invariant-loop-entry : goal.invariant-loop-entry
invariant-loop-entry l = (t : Tree) → Stands l.volume.image t → (i : ℕ) → i < l.entry-index → denies t l.force (get_or l.below i 0) ≡ false
