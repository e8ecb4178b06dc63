use Rattle.adf_record.proofs.Common.{◌≡◌, take}
use Rattle.adf_record.proofs.same.same_entries.Given as goal

-- the entries before this one are equal
abbrev pub invariant-loop-at : goal.invariant-loop-at
invariant-loop-at l = take l.at l.one ≡ take l.at l.other
