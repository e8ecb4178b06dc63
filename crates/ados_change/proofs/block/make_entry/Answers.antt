use Rattle.ados_change.proofs.Common.{content_of}
use Rattle.ados_change.proofs.Filled.{new_entry}
use Rattle.ados_change.proofs.block.make_entry.Goals as goal

pub returns-clause-entry : goal.returns-clause-entry
returns-clause-entry c =
    new_entry c.make_head.new.image c.put_title.new.image c.args.key c.args.dir c.args.name.now (content_of c.args.kind) c.args.moment
    c.put_title.ensures.valid c.make_head.ensures.head c.put_title.ensures.titled
