use Rattle.ados_census.specs.Fillers.{HoldsFiller}
use Rattle.adf_archive.proofs.Suspecting.{asked_decides}
use Rattle.adf_archive.proofs.suspects.is_filled.Goals as goal

pub returns-then-not-filler : goal.returns-then-not-filler
returns-then-not-filler c = λ holds. absurd (cc (holds.0, c.if-not-filler.true))

pub returns : goal.returns
returns c = asked_decides c.holds_filler.result c.args.filler (HoldsFiller c.args.image.now c.args.block) c.if-not-filler.false c.holds_filler.ensures
