use Rattle.std.proofs.Common.{ℕ, ◌<◌}
use Rattle.ados_census.specs.Fillers.{RepeatsFrom}
use Rattle.ados_census.proofs.filler.repeats.Given as goal

-- the bytes are the text from no byte before this one on
abbrev pub invariant-loop-start : goal.invariant-loop-start
invariant-loop-start l = (s : ℕ) → s < l.start → ¬ RepeatsFrom l.text l.bytes s
