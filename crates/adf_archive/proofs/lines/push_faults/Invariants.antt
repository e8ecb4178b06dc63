use Rattle.std.proofs.Common.{◌≡◌, ◌++◌, take}
use Rattle.adf_archive.proofs.Common.{flat_map, shown_line}
use Rattle.adf_archive.proofs.lines.push_faults.Given as goal

-- the lines of the faults before this one
abbrev pub invariant-loop-shown : goal.invariant-loop-shown
invariant-loop-shown l = l.text.items ≡ l.fn.text.items ++ flat_map (shown_line l.front) (take l.shown-index l.told.faults.items)
