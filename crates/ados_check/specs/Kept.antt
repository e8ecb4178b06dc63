-- How contracts see a source.
use Rattle.std.specs.Prelude.{true, false}
use Rattle.ados_check.specs.declared.source.Kept.{Kept}
use Rattle.ados_check.specs.declared.source.Kept.TheVariants.{Whole, Sketch}
use Rattle.ados_check.specs.Source.{SourceView}

-- the bytes of its image, and whether all are available
abbrev pub seen : Kept → SourceView
seen (Whole image) = record { bytes = image.now; whole = true }
seen (Sketch sketch) = record { bytes = sketch.now; whole = false }
