use Rattle.std.proofs.Common.{◌≡◌, take}
use Rattle.adf_archive.proofs.Common.{tallied}
use Rattle.adf_archive.proofs.telling.Tally.add.Given as goal

-- the status of the reports before this one
abbrev pub invariant-loop-report : goal.invariant-loop-report
invariant-loop-report l = l.self ≡ tallied l.fn.self (take l.report-index l.reports)
