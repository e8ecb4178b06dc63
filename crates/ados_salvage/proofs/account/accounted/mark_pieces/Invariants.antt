use Rattle.std.proofs.Common.{take}
use Rattle.ados_salvage.specs.Account.{OfOne}
use Rattle.ados_salvage.specs.steps.Accounting.{Adds, IsPieceBlock}
use Rattle.ados_salvage.proofs.account.accounted.mark_pieces.Given as goal

abbrev pub invariant-loop-piece : goal.invariant-loop-piece
invariant-loop-piece l = Adds (OfOne IsPieceBlock (take l.piece-index l.pieces)) l.fn.marks.items l.marks.items
