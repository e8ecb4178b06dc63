use Rattle.ados_salvage.proofs.DamagedHeaders.{adds_loose}
use Rattle.ados_salvage.proofs.account.extensions.mark_loose.Goals as goal

pub returns : goal.returns
returns c = adds_loose c.args.image.now c.args.entries.now c.in_ok-damaged.damaged c.args.marks.now.items c.mark_naming.new.marks.items c.in_ok-damaged.ensures c.mark_naming.ensures
