use Rattle.ados_validate.proofs.Renewed.{checked_mid, renewed}
use Rattle.ados_validate.proofs.rebuilt.rebuilt.Goals as goal

pub mend-requires : goal.mend-requires
mend-requires c = checked_mid c.args.image c.set_not_valid.new.image c.args.marks.now c.blocks-blocks.ensures.image c.requires.marks c.set_not_valid.ensures.rest c.set_not_valid.ensures.sum

pub returns-in-Ok : goal.returns-in-Ok
returns-in-Ok c = λ force.
    renewed c.args.image c.set_not_valid.new.image c.args.marks.now c.blocks-blocks.ensures.image c.requires.marks c.set_not_valid.ensures.rest c.set_not_valid.ensures.sum
    c.mend.new.image (λ kind block shown. absurd (c.requires.none kind block shown)) c.set_not_valid.ensures.image c.mend.ensures.image c.set_not_valid.ensures.not_valid c.in-Ok.ensures.mended
