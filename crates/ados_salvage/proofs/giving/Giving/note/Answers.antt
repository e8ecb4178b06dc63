use Rattle.std.proofs.Common.{refl}
use Rattle.ados_salvage.proofs.Marked.{gives_more}
use Rattle.ados_salvage.proofs.giving.Giving.note.Goals as goal

pub returns-clause-giving : goal.returns-clause-giving
returns-clause-giving c = λ holes image g. gives_more holes image c.args.self.now _ c.args.piece g c.requires.fresh refl c.in_ok-push.ensures.items refl
