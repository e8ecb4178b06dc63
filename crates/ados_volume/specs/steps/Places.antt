-- The cache of positions in files.
use Rattle.std.specs.Prelude.{◌≢◌, ℕ, List, Contains}
use Rattle.ados_data.specs.declared.place.Place.{Place}
use Rattle.ados_data.specs.Place.{IsPlace}
use Rattle.ados_model.specs.Keys.{HasFileKey}

-- the key is a file, and the place is one in it
pub record IsKnown (image : List ℕ) (file : ℕ) (place : Place) : Type 0 where
  pub is_file : HasFileKey image file
  pub place_is : IsPlace image file place

-- each pair is a file and a place in it
abbrev pub AreKnown : List ℕ → List (ℕ × Place) → Type 0
AreKnown image pairs = (file : ℕ) (place : Place) → Contains pairs (file, place) → IsKnown image file place

-- the file has no pair, and no pair is new
abbrev pub Drops : List (ℕ × Place) → ℕ → List (ℕ × Place) → Type 0
Drops old file new = (f : ℕ) (place : Place) → Contains new (f, place) → Contains old (f, place) × (f ≢ file)
