use Rattle.std.proofs.Common.{◌∙◌, refl}
use Rattle.ados_salvage.proofs.Heading.{finds_one, mark_read}
use Rattle.ados_salvage.proofs.known.headers.Found.note.Goals as goal

pub returns-clause-more : goal.returns-clause-more
returns-clause-more c = λ out image header f.
    finds_one out image c.args.self.now _ c.args.block c.requires.inside (mark_read c.args.self.now.marks.items c.args.block c.index.result.now c.requires.inside c.index.ensures ∙ c.if-index.false) refl c.in_ok-push.ensures.items header f
