use Rattle.ados_salvage.proofs.Trusting.{marks_reach}
use Rattle.ados_salvage.proofs.known.trust.marks_of_faulty.Goals as goal

pub returns : goal.returns
returns c = (c.if-not-is_trusted.ensures, marks_reach c.args.image.now c.in_ok-found.found.marks.items c.in_ok-found.ensures.marked)
