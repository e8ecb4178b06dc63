use Rattle.ados_salvage.proofs.Common.{arith}
use Rattle.ados_salvage.proofs.Emptying.{now_empty, only_there}
use Rattle.ados_salvage.proofs.holes.empty.Goals as goal

pub returns-clause-empty : goal.returns-clause-empty
returns-clause-empty c =
    now_empty c.args.block c.args.image.now c.clear.new.self c.put_bytes.new.self c.clear.ensures.rest c.clear.ensures.empty c.put_bytes.ensures.rest (c.put_bytes.ensures.put 0 (omega arith))

pub returns-clause-rest : goal.returns-clause-rest
returns-clause-rest c =
    only_there c.args.block c.args.image.now c.clear.new.self c.put_bytes.new.self c.clear.ensures.rest c.clear.ensures.empty c.put_bytes.ensures.rest (c.put_bytes.ensures.put 0 (omega arith))
