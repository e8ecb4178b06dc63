use Rattle.std.proofs.Common.{ℕ, take}
use Rattle.std.specs.Prelude.{All}
use Rattle.ados_census.specs.Classes.{IsMendedBy, longs_of}
use Rattle.ados_census.proofs.class.wrong_long.Given as goal

abbrev pub invariant-loop-place : goal.invariant-loop-place
invariant-loop-place l = All (λ (i : ℕ). ¬ IsMendedBy l.image l.block l.kind i) (take l.place-index (longs_of l.kind))
