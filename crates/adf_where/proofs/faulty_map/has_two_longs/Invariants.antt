use Rattle.adf_where.proofs.Common.{ℕ, ◌<◌, length, get_or, Place}
use Rattle.adf_where.specs.FaultyMap.{IsSameLong}
use Rattle.adf_where.proofs.faulty_map.has_two_longs.Given as goal

-- the places before this one are in the long of the first
abbrev pub invariant-loop-place : goal.invariant-loop-place
invariant-loop-place l = (k : ℕ) (d : Place) → k < l.place-index → k < length l.places → IsSameLong (get_or l.places k d) (get_or l.places 0 d)
