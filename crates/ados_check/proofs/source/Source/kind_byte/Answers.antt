use Rattle.ados_check.proofs.Common.{ℕ, List, slice_index, sym, ap, ◌∙◌, arith, byte_at, byte-bytes_at, seen, SourceView}
use Rattle.ados_check.proofs.source.Source.kind_byte.Goals as goal

pub returns-in-Sketch : goal.returns-in-Sketch
returns-in-Sketch c =
    ap (λ (bytes : List ℕ). slice_index bytes 3) c.boot.ensures
    ∙ byte-bytes_at c.in-Sketch.sketch.now 0 0 4 3 (omega arith)
    ∙ ap (λ (s : SourceView). byte_at s.bytes 0 3) (ap seen (sym c.in-Sketch.is) ∙ c.self.view_is)
