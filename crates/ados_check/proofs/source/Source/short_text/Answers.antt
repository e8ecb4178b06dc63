use Rattle.ados_check.proofs.Common.{◌≡◌, sym, ap, ◌∙◌, arith, byte_at, bytes_at, seen, SourceView}
use Rattle.ados_check.proofs.NameLemmas.{text_is}
use Rattle.ados_check.proofs.source.Source.short_text.Goals as goal

pub returns-in-Whole-clause-text : goal.returns-in-Whole-clause-text
returns-in-Whole-clause-text c =
    let count : c.from-length.result ≡ byte_at c.args.self.now.bytes c.args.b 432 = c.from-length.ensures ∙ c.byte.ensures in
    let bytes = c.block.ensures.bytes ∙ ap (λ (s : SourceView). bytes_at s.bytes c.args.b 0 512) (ap seen (sym c.in-Whole.is) ∙ c.self.view_is) in
    text_is c.args.self.now.bytes c.args.b c.from-length.result c.block.result.now bytes count (omega (arith, count, c.requires.short))

pub returns-in-Sketch-clause-text : goal.returns-in-Sketch-clause-text
returns-in-Sketch-clause-text c =
    let count : c.from-length.result ≡ byte_at c.args.self.now.bytes c.args.b 432 = c.from-length.ensures ∙ c.byte.ensures in
    let bytes = c.block-in-Sketch.ensures.bytes ∙ ap (λ (s : SourceView). bytes_at s.bytes c.args.b 0 512) (ap seen (sym c.in-Sketch.is) ∙ c.self.view_is) in
    text_is c.args.self.now.bytes c.args.b c.from-length.result c.block-in-Sketch.result.now bytes count (omega (arith, count, c.requires.short))
