use Rattle.adf_record.proofs.Common.{ℕ, ◌<◌, length}
use Rattle.std.proofs.Common.{reverse}
use Rattle.adf_record.proofs.Lines.{IsRest}
use Rattle.adf_record.proofs.bundle_lines.path_of.Given as goal

-- the bytes so far are backwards what the path ends with, behind that of this entry
abbrev pub invariant-loop-at : goal.invariant-loop-at
invariant-loop-at l = record {
  inside : l.at < length l.entries;
  rest : IsRest l.entries l.fn.place l.at (reverse l.path.items);
}

abbrev pub decreases-loop-at : goal.decreases-loop-at
decreases-loop-at l = l.at
