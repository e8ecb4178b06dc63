use Rattle.adf_record.proofs.Common.{ℕ, ◌+◌, sym, subst, arith}
use Rattle.adf_record.specs.steps.Losing.{IsCounted}
use Rattle.adf_record.proofs.Numbering.{NumbersBelow, numbers_all, numbers_more, numbers_none, numbers_same}
use Rattle.adf_record.proofs.lost.count_lost.Goals as goal
use Rattle.adf_record.proofs.lost.count_lost.Goals.{then-is_counted, else-is_counted}

pub loop-block-init : goal.loop-block-init
loop-block-init c = numbers_none (IsCounted c.args.image.now c.args.owners.now c.args.kind)

pub loop-block-preserved : goal.loop-block-preserved
loop-block-preserved c =
    let P = IsCounted c.args.image.now c.args.owners.now c.args.kind in
    elim c.if-is_counted.branch [
      | then-is_counted w ↦
          subst (λ (n : ℕ). NumbersBelow P (c.loop-block.block + 1) n) (sym w.count-is)
          (numbers_more P c.loop-block.block c.loop-block.count c.loop-block.invariant (rw w.if-is_counted.true at c.is_counted.ensures))
      | else-is_counted w ↦
          subst (λ (n : ℕ). NumbersBelow P (c.loop-block.block + 1) n) (sym w.count-is)
          (numbers_same P c.loop-block.block c.loop-block.count c.loop-block.invariant (rw w.if-is_counted.false at c.is_counted.ensures))
    ]

pub returns : goal.returns
returns c =
    numbers_all (IsCounted c.args.image.now c.args.owners.now c.args.kind) c.loop-block.block c.loop-block.count c.loop-block.invariant
    (λ block is. omega (arith, is.inside, c.loop-block-test.false, c.blocks-block-end.ensures.count))
