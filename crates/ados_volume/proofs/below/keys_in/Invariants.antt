use Rattle.ados_volume.proofs.Common.{Stands, Tree, block_count, vec_len, ◌-◌}
use Rattle.ados_volume.proofs.DirectoryKeys.{IsListed}
use Rattle.ados_volume.proofs.below.keys_in.Given as goal

abbrev pub invariant-loop-key : goal.invariant-loop-key
invariant-loop-key l = (t : Tree) → Stands l.volume.image t → IsListed t l.dir l.last l.keys.items

abbrev pub decreases-loop-key : goal.decreases-loop-key
decreases-loop-key l = block_count l.volume.image - vec_len l.keys
