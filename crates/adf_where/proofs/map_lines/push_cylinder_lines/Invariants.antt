use Rattle.std.specs.List.{range_with_len}
use Rattle.adf_where.proofs.Common.{◌≡◌, ◌++◌, flat_map}
use Rattle.adf_where.specs.BlockMap.{cylinder_line}
use Rattle.adf_where.proofs.map_lines.push_cylinder_lines.Given as goal

-- the lines before this one
abbrev pub invariant-loop-at : goal.invariant-loop-at
invariant-loop-at l = l.text.items ≡ l.fn.text.items ++ flat_map (cylinder_line l.letters l.size) (range_with_len 0 l.at)
