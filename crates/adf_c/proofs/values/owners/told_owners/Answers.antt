use Rattle.std.proofs.Common.{arith}
use Rattle.std.proofs.lemmas.List.{get_or_default}
use Rattle.adf_c.proofs.Owning.{all_told, one_more}
use Rattle.adf_c.proofs.values.owners.told_owners.Goals as goal

pub loop-block-preserved : goal.loop-block-preserved
loop-block-preserved c = one_more _ _ _ c.loop-block.block c.args.owners.now _ _ c.loop-block.invariant (omega (arith, c.loop-block-test.true, c.requires)) (get_or_default c.args.owners.now c.loop-block.block _ _ (omega (arith, c.loop-block-test.true, c.requires))) c.of.ensures c.in_ok-push.ensures.items

pub returns : goal.returns
returns c = all_told _ _ c.loop-block.block c.args.owners.now c.loop-block.invariant (omega (arith, c.loop-block-test.false, c.requires))
