use Rattle.adf_record.proofs.Common.{take, Stands, Tree, AreEntriesOf}
use Rattle.adf_record.proofs.bundling.entries_of.Given as goal

-- the objects before this one have their entries
abbrev pub invariant-loop-entry : goal.invariant-loop-entry
invariant-loop-entry l = (t : Tree) → Stands l.volume.image t → AreEntriesOf t (take l.entry-index l.found) l.entries.items
