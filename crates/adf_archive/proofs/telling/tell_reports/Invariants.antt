use Rattle.std.proofs.Common.{◌≡◌, take, map}
use Rattle.adf_archive.proofs.Common.{string_bytes, told_from}
use Rattle.adf_archive.proofs.telling.tell_reports.Given as goal

-- the text has the reports before this one
abbrev pub invariant-loop-place : goal.invariant-loop-place
invariant-loop-place g l = l.text.items ≡ told_from l.form (map string_bytes l.paths) l.start (take l.place l.reports)
