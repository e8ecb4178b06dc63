use Rattle.std.proofs.Common.{take}
use Rattle.std.specs.Prelude.{All}
use Rattle.ados_census.specs.Classes.{IsOtherThan}
use Rattle.ados_census.specs.declared.class.TheConstants.{BLOCK_KINDS}
use Rattle.ados_census.proofs.class.class_of.Given as goal

abbrev pub invariant-loop-kind : goal.invariant-loop-kind
invariant-loop-kind l = All (IsOtherThan l.image l.block) (take l.kind-index BLOCK_KINDS)
