use Rattle.std.proofs.Common.{◌≡◌, map, take}
use Rattle.adf_rescue.specs.Undelete.{deleted_text, seen_place}
use Rattle.adf_rescue.proofs.deleted_lines.Labels.text.Given as goal

-- what is told of the entries before this one
abbrev pub invariant-loop-entry : goal.invariant-loop-entry
invariant-loop-entry l = l.text.items ≡ deleted_text l.json l.self.positions.now (map seen_place l.self.places.now) (take l.entry-index l.chosen)
