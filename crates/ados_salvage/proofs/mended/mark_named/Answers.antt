use Rattle.ados_salvage.specs.steps.Mending.{NamesAt}
use Rattle.ados_salvage.proofs.NamedBlocks.{adds_next}
use Rattle.ados_salvage.proofs.mended.mark_named.Goals as goal

pub loop-at-preserved : goal.loop-at-preserved
loop-at-preserved c =
    adds_next (NamesAt c.args.known.now.image c.args.block) c.loop-at.at c.args.named.now.items c.loop-at.named.items c.mark_place.new.named.items c.loop-at.invariant c.mark_place.ensures
