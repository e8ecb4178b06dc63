use Rattle.ados_volume.proofs.Common.{List, Stands, Tree, entries, map, placed, reverse, vec_len, ℕ, ◌++◌, ◌≡◌}
use Rattle.ados_volume.proofs.below.push_entries.Given as goal

-- the last keys were popped, and their entries are on the stack
abbrev pub invariant-loop-key : goal.invariant-loop-key
invariant-loop-key l =
    (t : Tree) → Stands l.volume.image t
    → (taken : List ℕ) × (entries t l.dir ≡ l.keys.items ++ taken) × (l.waiting.items ≡ l.initial.waiting.items ++ reverse (map (placed l.above) taken))

abbrev pub decreases-loop-key : goal.decreases-loop-key
decreases-loop-key l = vec_len l.keys
