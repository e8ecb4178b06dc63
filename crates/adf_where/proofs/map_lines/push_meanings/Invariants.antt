use Rattle.adf_where.proofs.Common.{◌≡◌, ◌++◌, take, flat_map}
use Rattle.adf_where.specs.BlockMap.{meaning_line}
use Rattle.adf_where.proofs.map_lines.push_meanings.Given as goal

-- the lines of the kinds before this one
abbrev pub invariant-loop-kind : goal.invariant-loop-kind
invariant-loop-kind l = l.text.items ≡ l.fn.text.items ++ flat_map (meaning_line l.letters) (take l.kind-index l.kinds)
