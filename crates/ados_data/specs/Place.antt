-- Positions among the pointer blocks of a file.
use Rattle.std.specs.Prelude.{◌≡◌, ℕ, ◌≤◌, List, ◌∷◌, length, slice_index}
use Rattle.ados_data.specs.declared.place.Place.{Place}
use Rattle.ados_model.specs.File.{extension_blocks}

-- the place is a pointer block in the list of the header and these extension blocks, with `index` others before it
pub record IsAmong (file : ℕ) (extensions : List ℕ) (place : Place) : Type 0 where
  pub within : place.index ≤ length extensions
  pub block_is : place.block ≡ slice_index (file ∷ extensions) place.index

-- the place is a pointer block of the file with this header
abbrev pub IsPlace : List ℕ → ℕ → Place → Type 0
IsPlace image file place = IsAmong file (extension_blocks image file) place
