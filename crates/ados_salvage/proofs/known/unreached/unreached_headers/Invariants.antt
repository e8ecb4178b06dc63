use Rattle.ados_salvage.proofs.Splitting.{Splits}
use Rattle.ados_salvage.proofs.Keeping.{IsAside, IsKept}
use Rattle.ados_salvage.proofs.known.unreached.unreached_headers.Given as goal

abbrev pub invariant-loop-block : goal.invariant-loop-block
invariant-loop-block l = Splits (IsAside l.left_out l.image) (IsKept l.left_out l.image) l.block l.headers.items
