use Rattle.adf_where.proofs.Common.{◌≡◌, ◌++◌, take, flat_map}
use Rattle.adf_where.specs.BlockMap.{legend_part}
use Rattle.adf_where.proofs.map_lines.push_legend.Given as goal

-- the counts of the kinds before this one
abbrev pub invariant-loop-kind : goal.invariant-loop-kind
invariant-loop-kind l = l.text.items ≡ l.fn.text.items ++ flat_map (legend_part l.refused l.letters) (take l.kind-index l.kinds)
