use Rattle.std.proofs.Common.{◌≡◌, ◌<◌, All, length, map, take}
use Rattle.adf_rescue.specs.Undelete.{chosen_of, seen_place}
use Rattle.adf_rescue.proofs.chosen.chosen_entries.Given as goal

-- the chosen entries among those before this one
abbrev pub invariant-loop-entry : goal.invariant-loop-entry
invariant-loop-entry l = record {
  chosen : l.chosen.items ≡ chosen_of l.positions (map seen_place l.places) (take l.entry-index l.deleted);
  inside : All (λ one. one.position < length l.places) l.chosen.items;
}
