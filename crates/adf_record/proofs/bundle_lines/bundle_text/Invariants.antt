use Rattle.adf_record.proofs.Common.{◌+◌, ◌≤◌, length, MOST_BUNDLE_BYTES, IsTextTo}
use Rattle.adf_record.proofs.bundle_lines.bundle_text.Given as goal

-- the entries before this one have their lines
abbrev pub invariant-loop-place : goal.invariant-loop-place
invariant-loop-place l = record {
  told : IsTextTo l.bundle l.place l.text.items;
  within : length l.text.items + 4 ≤ MOST_BUNDLE_BYTES;
}
