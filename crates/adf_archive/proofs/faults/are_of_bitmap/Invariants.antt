use Rattle.std.proofs.Common.{ℕ, ◌<◌, slice_index_or}
use Rattle.adf_archive.proofs.Common.{IsOfMarks, VolumeFault}
use Rattle.adf_archive.proofs.faults.are_of_bitmap.Given as goal

-- the faults before this one are those of the bitmap
abbrev pub invariant-loop-fault : goal.invariant-loop-fault
invariant-loop-fault l = (k : ℕ) (e : VolumeFault) → k < l.fault-index → IsOfMarks (slice_index_or l.faults k e).kind
