use Rattle.std.proofs.Common.{◌≡◌, All, map, take}
use Rattle.adf_archive.proofs.Common.{HasValues}
use Rattle.adf_archive.proofs.faults.shown_faults.Given as goal

-- the reports of the faults before this one, with their values
abbrev pub invariant-loop-fault : goal.invariant-loop-fault
invariant-loop-fault l = record {
  faults : map (λ each. each.fault) l.shown.items ≡ take l.fault-index l.faults;
  values : All (HasValues l.image l.marks) l.shown.items;
}
