use Rattle.adf_rescue.proofs.GivenNumbers.{AreGiven}
use Rattle.adf_rescue.proofs.missing.given_numbers.Given as goal

-- the numbers in the pieces before this one
abbrev pub invariant-loop-piece : goal.invariant-loop-piece
invariant-loop-piece l = AreGiven l.pieces l.piece-index l.count l.numbers.items
