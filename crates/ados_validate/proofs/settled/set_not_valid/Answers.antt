use Rattle.ados_validate.proofs.Common.{sym, ap, ◌∙◌, block_sum}
use Rattle.ados_validate.proofs.SettlingPages.{root_not_valid, root_rest}
use Rattle.ados_validate.proofs.settled.set_not_valid.Goals as goal

pub returns-clause-not_valid : goal.returns-clause-not_valid
returns-clause-not_valid c =
    root_not_valid c.args.image.now c.set_long.new.self c.settle.new.self c.root-root.result c.root-root.ensures c.set_long.ensures.rest c.settle.ensures.rest c.set_long.ensures.long

pub returns-clause-sum : goal.returns-clause-sum
returns-clause-sum c = ap (block_sum c.settle.new.self) (sym c.root-root.ensures) ∙ c.settle.ensures.sum

pub returns-clause-rest : goal.returns-clause-rest
returns-clause-rest c = root_rest c.args.image.now c.set_long.new.self c.settle.new.self c.root-root.result c.root-root.ensures c.set_long.ensures.rest c.settle.ensures.rest
