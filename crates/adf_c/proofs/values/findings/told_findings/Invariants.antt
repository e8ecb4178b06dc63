use Rattle.std.proofs.Common.{take}
use Rattle.adf_c.specs.Findings.{AreFindings}
use Rattle.adf_c.proofs.values.findings.told_findings.Given as goal

abbrev pub invariant-loop-place : goal.invariant-loop-place
invariant-loop-place l = AreFindings l.image l.marks (take l.place l.faults) l.told.items
