use Rattle.adf_export.proofs.Common.{take, Tree, Stands, comes_before, sorted, AreRanked}
use Rattle.adf_export.proofs.order.sorted_keys.Given as goal

-- the keys before this one are in order, each with its rank
abbrev pub invariant-loop-key : goal.invariant-loop-key
invariant-loop-key l = (t : Tree) → Stands l.volume.image t → AreRanked t l.order (sorted (comes_before t l.order) (take l.key-index l.keys)) l.ranked.entries
