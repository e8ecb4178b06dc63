use Rattle.ados_salvage.proofs.Common.{◌≡◌, length}
use Rattle.ados_salvage.proofs.Emptying.{AreMarkedBelow}
use Rattle.ados_salvage.proofs.giving.mark_holes.Given as goal

abbrev pub invariant-loop-block : goal.invariant-loop-block
invariant-loop-block l = record { size : length l.given ≡ length l.initial.given; marked : AreMarkedBelow l.holes l.given l.block }
