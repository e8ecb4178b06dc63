use Rattle.ados_salvage.proofs.Trusting.{none_lists_all}
use Rattle.ados_salvage.proofs.known.trust.trusted_marks.Goals as goal

pub is_trusted-requires-clause-all : goal.is_trusted-requires-clause-all
is_trusted-requires-clause-all c = none_lists_all c.args.image.now c.in-Some.ensures.1

pub returns : goal.returns
returns c = (c.if-not-is_trusted.ensures, λ block mark e _. c.in-Some.ensures.0.reached.reached block mark e)
