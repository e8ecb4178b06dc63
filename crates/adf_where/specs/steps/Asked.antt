-- Blocks that are asked for.
use Rattle.std.specs.Prelude.{ℕ, List, All, Contains, Vec}
use Rattle.std.specs.Global.{Global}
use Rattle.std.specs.List.{AllZip}
use Rattle.std.specs.List.Sorted.{IsStrictlyIncreasing}
use Rattle.ados_census.specs.declared.place.Place.{Place}
use Rattle.ados_census.specs.Places.{AreAllPlaces}
use Rattle.adf_where.specs.declared.faulty.AskedBlocks.{AskedBlocks}

-- for each block, these are all places that name it
abbrev pub AreAllPlacesOfEach : List ℕ → List ℕ → Vec (Vec Place Global) Global → Type 0
AreAllPlacesOfEach image blocks lists = AllZip (λ block (places : Vec Place Global). AreAllPlaces image block places.items) blocks lists.items

-- the blocks that are asked for, each with all places that name it
pub record AreAsked (image blocks : List ℕ) (asked : AskedBlocks) : Type 0 where
  pub increasing : IsStrictlyIncreasing asked.asked.items
  pub all : All (Contains asked.asked.items) blocks
  pub places : AreAllPlacesOfEach image asked.asked.items asked.lists
