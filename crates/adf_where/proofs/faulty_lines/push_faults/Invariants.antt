use Rattle.adf_where.proofs.Common.{◌≡◌, ◌++◌, take, flat_map, fault_line}
use Rattle.adf_where.proofs.faulty_lines.push_faults.Given as goal

-- the lines of the faults before this one
abbrev pub invariant-loop-fault : goal.invariant-loop-fault
invariant-loop-fault l = l.text.items ≡ l.fn.text.items ++ flat_map fault_line (take l.fault-index l.faults)
