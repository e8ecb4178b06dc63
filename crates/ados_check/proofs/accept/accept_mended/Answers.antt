use Rattle.ados_check.proofs.Accepted.{mended_is_accepted}
use Rattle.ados_check.proofs.accept.accept_mended.Goals as goal

pub returns-in-Ok-clause-answer : goal.returns-in-Ok-clause-answer
returns-in-Ok-clause-answer c =
    mended_is_accepted c.args.image c.mend.new.image c.args.marks.now c.in-Ok.ensures.was c.in-Ok.ensures.image c.requires.checked c.requires.not_valid c.in-Ok.ensures.mended

pub returns-in-Ok-clause-stands : goal.returns-in-Ok-clause-stands
returns-in-Ok-clause-stands c =
    let accepted = mended_is_accepted c.args.image c.mend.new.image c.args.marks.now c.in-Ok.ensures.was c.in-Ok.ensures.image c.requires.checked c.requires.not_valid c.in-Ok.ensures.mended in
    (accepted.2.0, accepted.2.1)
