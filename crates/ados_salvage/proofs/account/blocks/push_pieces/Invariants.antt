use Rattle.std.proofs.Common.{◌≡◌, ◌++◌, map, take}
use Rattle.ados_salvage.specs.Parts.{piece_told}
use Rattle.ados_salvage.proofs.account.blocks.push_pieces.Given as goal

abbrev pub invariant-loop-piece : goal.invariant-loop-piece
invariant-loop-piece l = l.told.items ≡ l.fn.told.items ++ map (piece_told l.entries) (take l.piece-index l.pieces)
