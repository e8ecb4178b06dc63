-- Names of image files.
use Rattle.std.specs.Prelude.{◌≡◌, ◌⊎◌, ℕ, List, ◌++◌, map, codes}
use Rattle.std.specs.Char.{to_ascii_lowercase}

-- the name ends in these letters, in any case
abbrev pub EndsIn : List ℕ → List ℕ → Type 0
EndsIn name letters =
    (front : List ℕ) × (ending : List ℕ) × (name ≡ front ++ ending) × (map to_ascii_lowercase ending ≡ map to_ascii_lowercase letters)

-- the name ends in `.adf` or `.hdf`, in any case
abbrev pub HasImageEnding : List ℕ → Type 0
HasImageEnding name = EndsIn name (codes ".adf") ⊎ EndsIn name (codes ".hdf")
