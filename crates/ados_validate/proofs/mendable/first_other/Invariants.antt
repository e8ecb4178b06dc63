use Rattle.ados_validate.proofs.Common.{ℕ, ◌<◌, slice_index_or, IsMendable}
use Rattle.ados_model.specs.declared.fault.VolumeFault.{VolumeFault}
use Rattle.ados_validate.proofs.mendable.first_other.Given as goal

abbrev pub invariant-loop-fault : goal.invariant-loop-fault
invariant-loop-fault l = (k : ℕ) (e : VolumeFault) → k < l.fault-index → IsMendable l.image (slice_index_or l.faults k e).kind (slice_index_or l.faults k e).block
