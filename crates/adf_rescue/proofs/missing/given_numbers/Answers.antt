use Rattle.adf_rescue.proofs.GivenNumbers.{given_on}
use Rattle.adf_rescue.proofs.missing.given_numbers.Goals as goal

pub loop-piece-init : goal.loop-piece-init
loop-piece-init c = record { size = c.in_ok-numbers.ensures.count; each = λ place l. c.in_ok-numbers.ensures.none place }

pub loop-piece-preserved : goal.loop-piece-preserved
loop-piece-preserved c =
    given_on c.args.pieces.now c.loop-piece.piece-index c.args.count c.loop-piece.numbers.items c.note.new.numbers.items _ c.loop-piece.invariant c.loop-piece-test.true
    c.in_ok-note.ensures.count c.in_ok-note.ensures.here c.in_ok-note.ensures.others
