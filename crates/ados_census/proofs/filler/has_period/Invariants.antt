use Rattle.std.proofs.Common.{◌≡◌, ℕ, ◌+◌, ◌<◌, MatchBool, slice_index}
use Rattle.ados_census.proofs.filler.has_period.Given as goal

-- whether the bytes that were compared are the same
abbrev pub invariant-loop-place : goal.invariant-loop-place
invariant-loop-place l =
    MatchBool l.same ((i : ℕ) → i < l.place → slice_index l.bytes (i + l.period) ≡ slice_index l.bytes i)
    (¬ ((i : ℕ) → i < l.place → slice_index l.bytes (i + l.period) ≡ slice_index l.bytes i))
