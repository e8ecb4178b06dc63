use Rattle.ados_faults.proofs.Common.{arith, common_steps}
use Rattle.ados_faults.proofs.Enumerated.{left_all, left_less, left_none}
use Rattle.ados_faults.proofs.blocks.Blocks.clear.Goals as goal

pub loop-block-init : goal.loop-block-init
loop-block-init c = left_all c.requires

pub loop-block-preserved : goal.loop-block-preserved
loop-block-preserved c = left_less c.loop-block.self.list.items c.pop.new.self.items c.in-Some.block c.in-Some.ensures.items c.loop-block.invariant

pub returns-clause-met : goal.returns-clause-met
returns-clause-met c = left_none c.loop-block.invariant (grind (arith, common_steps)) (grind (arith, common_steps))
