use Rattle.std.proofs.Common.{◌≡◌, ◌++◌, ◌+◌, ◌-◌, ℕ, List, vec_len}
use Rattle.adf_import.proofs.Common.{block_count, Tree, Stands}
use Rattle.ados_volume.proofs.DirectoryKeys.{IsListed}
use Rattle.adf_import.proofs.prune.push_entries.Given as goal

-- the list has grown by the keys that were listed
abbrev pub invariant-loop-key : goal.invariant-loop-key
invariant-loop-key l =
    (t : Tree) → Stands l.volume.image t → (own : List ℕ) × (l.keys.items ≡ l.initial.keys.items ++ own) × IsListed t l.dir l.last own

abbrev pub decreases-loop-key : goal.decreases-loop-key
decreases-loop-key l = (block_count l.volume.image + vec_len l.initial.keys) - vec_len l.keys
