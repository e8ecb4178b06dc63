-- The places that name a block, and what they make of it.
use Rattle.std.specs.Prelude.{◌≡◌, ◌⊎◌, ℕ, List, Contains}
use Rattle.ados_census.specs.declared.place.PlaceKind.{PlaceKind}
use Rattle.ados_census.specs.declared.place.PlaceKind.TheVariants as places
use Rattle.ados_census.specs.declared.place.Place.{Place}
use Rattle.ados_check.specs.BitmapTold.{IsFree}
use Rattle.ados_model.specs.Faults.{HasFileType}
use Rattle.adf_where.specs.declared.block_mark.BlockMark.{BlockMark}
use Rattle.adf_where.specs.declared.block_mark.BlockMark.TheVariants.{Bitmap, Directory, File, Extension, Data, Lost, Free}
use Rattle.adf_where.specs.FaultyMap.{IsSameLong}

-- two of these places are different longs
pub record HasTwoLongs (places : List Place) : Type 0 where
  pub one : Place
  pub other : Place
  pub first : Contains places one
  pub second : Contains places other
  pub apart : ¬ IsSameLong one other

-- all of these places are one long
abbrev pub AreOneLong : List Place → Type 0
AreOneLong places = (one other : Place) → Contains places one → Contains places other → IsSameLong one other

-- what a place of this kind makes of the block that it names
abbrev pub IsMarkOf : List ℕ → ℕ → PlaceKind → BlockMark → Type 0
IsMarkOf image block places.Page mark = mark ≡ Bitmap
IsMarkOf image block places.Extension mark = mark ≡ Extension
IsMarkOf image block places.Data mark = mark ≡ Data
IsMarkOf image block kind mark = ((mark ≡ File) × HasFileType image block) ⊎ ((mark ≡ Directory) × ¬ HasFileType image block)

-- what the bit of a block that nothing names makes of it
abbrev pub IsMarkByBit : List ℕ → ℕ → BlockMark → Type 0
IsMarkByBit image block mark = ((mark ≡ Free) × IsFree image block) ⊎ ((mark ≡ Lost) × ¬ IsFree image block)
