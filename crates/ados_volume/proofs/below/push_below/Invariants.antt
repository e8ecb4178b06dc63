use Rattle.ados_volume.proofs.Common.{Stands, Tree, block_count, vec_len, ◌+◌, ◌-◌}
use Rattle.ados_volume.proofs.GoingBelow.{GrowsOn}
use Rattle.ados_volume.proofs.below.push_below.Given as goal

abbrev pub invariant-loop-entry : goal.invariant-loop-entry
invariant-loop-entry l = (t : Tree) → Stands l.volume.image t → GrowsOn t l.top l.fn.above l.initial.found.items l.found.items l.waiting.items

abbrev pub decreases-loop-entry : goal.decreases-loop-entry
decreases-loop-entry l = (block_count l.volume.image + vec_len l.initial.found) - vec_len l.found
