use Rattle.ados_faults.proofs.Common.{rules, sym, subst, AreMet}
use Rattle.ados_faults.proofs.Enumerated.{met_none}
use Rattle.ados_faults.proofs.blocks.Blocks.none.Goals as goal

pub returns-clause-met : goal.returns-clause-met
returns-clause-met c = subst (AreMet c.args.image.now c.in_ok-has.has.items) (sym c.new.ensures.items) (met_none c.args.image.now c.in_ok-has.has.items (search rules))
