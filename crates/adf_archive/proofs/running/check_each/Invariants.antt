use Rattle.std.proofs.Common.{◌-◌, ◌≤◌, length, map}
use Rattle.adf_archive.proofs.Common.{string_bytes}
use Rattle.adf_archive.proofs.Chunks.{SoFar}
use Rattle.adf_archive.proofs.running.check_each.Given as goal

-- this many images were reported
abbrev pub invariant-loop-done : goal.invariant-loop-done
invariant-loop-done g l = (l.done ≤ length l.paths) × SoFar g.C.Fn l.report l.settings.form (map string_bytes l.paths) (g.W.Write.contents l.fn.writer) (g.W.Write.contents l.writer) l.done l.tally

abbrev pub decreases-loop-done : goal.decreases-loop-done
decreases-loop-done g l = length l.paths - l.done
