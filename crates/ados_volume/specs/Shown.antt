-- What contracts see of a volume.
use Rattle.std.specs.Prelude.{ℕ, List, Bool}

-- its image, and whether the bitmap was rebuilt when the image was checked
pub record Shown : Type 0 where
  pub image : List ℕ
  pub was_validated : Bool
