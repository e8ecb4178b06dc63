use Rattle.adf_export.proofs.Common.{flat_map, None, take, Tree, Stands, AreBelow, tops}
use Rattle.adf_export.proofs.items.entries_of.Given as goal

-- the entries of the objects before this one are there
abbrev pub invariant-loop-key : goal.invariant-loop-key
invariant-loop-key l = (t : Tree) → Stands l.volume.image t → AreBelow t None 0 (flat_map (tops t) (take l.key-index l.keys)) l.found.items
