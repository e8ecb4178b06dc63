use Rattle.ados_salvage.proofs.DamagedHeaders.{adds_extensions}
use Rattle.std.proofs.lemmas.Result.{on_ok_weaker}
use Rattle.ados_salvage.proofs.account.extensions.mark_extensions.Goals as goal

pub returns : goal.returns
returns c = on_ok_weaker c.mark_loose.result
    (adds_extensions c.args.image.now c.args.entries.now c.args.marks.now.items c.mark_linked.new.marks.items c.mark_loose.new.marks.items c.mark_linked.ensures) c.mark_loose.ensures
