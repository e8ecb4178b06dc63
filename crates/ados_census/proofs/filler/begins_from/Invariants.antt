use Rattle.std.proofs.Common.{◌≡◌, ℕ, ◌+◌, ◌<◌, ◌%◌, length, slice_index}
use Rattle.ados_census.proofs.filler.begins_from.Given as goal

-- the bytes before this one are those of the text
abbrev pub invariant-loop-place : goal.invariant-loop-place
invariant-loop-place l = (i : ℕ) → i < l.place → slice_index l.bytes i ≡ slice_index l.text ((l.start + i) % length l.text)
