use Rattle.std.proofs.Common.{◌≡◌, length}
use Rattle.ados_salvage.proofs.giving.mark_volume.Given as goal

abbrev pub invariant-loop-page : goal.invariant-loop-page
invariant-loop-page l = length l.given ≡ length l.initial.given
