use Rattle.ados_faults.proofs.Common.{arith, below_more}
use Rattle.ados_faults.proofs.ByHeaders.{one_on}
use Rattle.ados_faults.proofs.Cells.{noted_on}
use Rattle.ados_faults.proofs.pieces.look_at_all_in.Goals as goal

pub loop-i-init : goal.loop-i-init
loop-i-init c = record { noted = c.requires.noted; stays = record { stay = λ cell e. e }; placed = λ k l. absurd (omega (arith, l)) }

pub loop-i-preserved : goal.loop-i-preserved
loop-i-preserved c =
    let done = c.look_at_one.ensures in
    record {
      noted = done.noted;
      stays = noted_on c.loop-i.invariant.stays done.stays;
      placed = below_more _ _ (λ k l. one_on c.args.image.now c.loop-i.notes.cells.items c.look_at_one.new.notes.cells.items done.stays c.args.piece k (c.loop-i.invariant.placed k l)) done.place;
    }

pub returns-clause-piece : goal.returns-clause-piece
returns-clause-piece c = record { placed = λ i l. c.loop-i.invariant.placed i (omega (arith, l, c.loop-i-test.false)) }
