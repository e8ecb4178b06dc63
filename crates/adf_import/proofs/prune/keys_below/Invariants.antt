use Rattle.std.proofs.Common.{◌-◌, vec_len}
use Rattle.adf_import.proofs.Common.{block_count, Tree, Stands}
use Rattle.adf_import.proofs.Gathering.{IsGathering}
use Rattle.adf_import.proofs.prune.keys_below.Given as goal

abbrev pub invariant-loop-key : goal.invariant-loop-key
invariant-loop-key l = (t : Tree) → Stands l.volume.image t → IsGathering t l.top l.keys.items l.waiting.items

abbrev pub decreases-loop-key : goal.decreases-loop-key
decreases-loop-key l = block_count l.volume.image - vec_len l.keys
