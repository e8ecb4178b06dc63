use Rattle.adf_import.proofs.Common.{IsReady}
use Rattle.adf_import.proofs.bundle_put.put_entries.Given as goal

-- more can be put into the root, and into what was made
abbrev pub invariant-loop-place : goal.invariant-loop-place
invariant-loop-place l = IsReady l.volume.image l.top l.progress
