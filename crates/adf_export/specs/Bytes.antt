-- How contracts see the bytes of host files that are read from a volume.
use Rattle.std.specs.Prelude.{ℕ, List}
use Rattle.adf_export.specs.declared.entry.Source.{Source}

-- the volume's image, and the source of each file
pub record BytesView : Type 0 where
  pub image : List ℕ
  pub sources : List Source
