use Rattle.ados_salvage.specs.Doubtful.NamesEntries.{of_root}
use Rattle.ados_salvage.proofs.known.headers.first_headers.Goals as goal

pub follow-requires-clause-accepted : goal.follow-requires-clause-accepted
follow-requires-clause-accepted c = of_root (c.is_root.ensures.0 c.if-not-is_root.false)
