-- The places that name blocks, whatever faults the image shows.
use Rattle.std.specs.Prelude.{◌≡◌, ℕ, ◌+◌, ◌*◌, ◌<◌, ◌==◌, if◌then◌else◌, List, All, AllPairs, Contains}
use Rattle.adf_block.specs.declared.layout.TheConstants.{BLOCK_LONGS, NEXT_IN_CHAIN}
use Rattle.adf_block.specs.Image.{long}
use Rattle.ados_model.specs.declared.role.Role.{Role}
use Rattle.ados_model.specs.declared.role.Role.TheVariants as roles
use Rattle.ados_model.specs.Faults.{IsPlace, Reached}
use Rattle.ados_census.specs.declared.place.PlaceKind.{PlaceKind}
use Rattle.ados_census.specs.declared.place.PlaceKind.TheVariants.{Entry, NextEntry, Extension, Data, Page}
use Rattle.ados_census.specs.declared.place.Place.{Place}

-- what a place makes of the block that it names, by the role that it gives, and by its long
abbrev pub kind_of : Role → ℕ → PlaceKind
kind_of roles.Root i = Entry
kind_of roles.Page i = Page
kind_of (roles.Entry dir s) i = if i == NEXT_IN_CHAIN then NextEntry else Entry
kind_of (roles.Data file) i = Data
kind_of (roles.Extension file) i = Extension

-- a block in this role has the place
pub record Gives (image : List ℕ) (place : Place) (role : Role) : Type 0 where
  pub next : Role
  pub is_place : IsPlace image place.holder role place.long next
  pub makes : kind_of next place.long ≡ place.kind

-- the place is one of a reached block
pub record IsPlaceOfReached (image : List ℕ) (place : Place) : Type 0 where
  pub role : Role
  pub reached : Reached image place.holder role
  pub gives : Gives image place role

-- the place is one of a reached block, and has the number of this block
pub record NamesBlock (image : List ℕ) (block : ℕ) (place : Place) : Type 0 where
  pub is_place : IsPlaceOfReached image place
  pub names : long image place.holder place.long ≡ block

-- the number of a kind
abbrev pub rank : PlaceKind → ℕ
rank Entry = 0
rank NextEntry = 1
rank Extension = 2
rank Data = 3
rank Page = 4

-- the position of a place among all: by its holder, then by its long, then by its kind
abbrev pub position : Place → ℕ
position place = 5 * (BLOCK_LONGS * place.holder + place.long) + rank place.kind

-- the places are exactly those that name the block, in order, each once
pub record AreAllPlaces (image : List ℕ) (block : ℕ) (places : List Place) : Type 0 where
  pub in_order : AllPairs (λ a b. position a < position b) places
  pub named : All (NamesBlock image block) places
  pub all : (place : Place) → NamesBlock image block place → Contains places place
