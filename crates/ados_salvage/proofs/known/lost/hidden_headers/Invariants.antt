use Rattle.ados_salvage.specs.Found.{IsHidden}
use Rattle.ados_salvage.proofs.Splitting.{Splits}
use Rattle.ados_salvage.proofs.Hiding.{IsToldIn}
use Rattle.ados_salvage.proofs.known.lost.hidden_headers.Given as goal

abbrev pub invariant-loop-block : goal.invariant-loop-block
invariant-loop-block l = Splits (IsHidden l.image) (IsToldIn l.image) l.block l.headers.items
