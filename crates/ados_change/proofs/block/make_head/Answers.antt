use Rattle.ados_change.proofs.Common.{◌∙◌, content_of}
use Rattle.ados_change.proofs.Filled.{head}
use Rattle.ados_change.proofs.block.make_head.Goals as goal

pub returns-clause-head : goal.returns-clause-head
returns-clause-head c =
    head c.clear.new.self c.set_long.new.self c.set_long-2.new.self c.set_long-3.new.self c.put_date.new.image c.args.key (content_of c.args.kind) c.args.moment
    c.clear.ensures.empty c.set_long.ensures.rest c.set_long.ensures.long c.set_long-2.ensures.rest c.set_long-2.ensures.long c.set_long-3.ensures.rest (c.set_long-3.ensures.long ∙ c.secondary_type.ensures) c.put_date.ensures.rest c.put_date.ensures.date
