-- The places that name blocks, while they are found.
use Rattle.std.specs.Prelude.{◌≡◌, ℕ, ◌<◌, List, All, AllPairs, Contains}
use Rattle.ados_model.specs.declared.role.Role.{Role}
use Rattle.ados_model.specs.Faults.{Reached}
use Rattle.ados_census.specs.declared.place.Place.{Place}
use Rattle.ados_census.specs.Places.{Gives, NamesBlock, position}
use Rattle.ados_census.specs.steps.Reaching.{form}

-- the place is one of a block that is reached in a role of this form
pub record IsGivenIn (image : List ℕ) (place : Place) (number : ℕ) : Type 0 where
  pub role : Role
  pub of_form : form role ≡ number
  pub reached : Reached image place.holder role
  pub gives : Gives image place role

-- the places are exactly those that name the block and have a position below n, in order, each once
pub record ArePlacesBelow (image : List ℕ) (block n : ℕ) (places : List Place) : Type 0 where
  pub in_order : AllPairs (λ a b. position a < position b) places
  pub below : All (λ place. position place < n) places
  pub named : All (NamesBlock image block) places
  pub all : (place : Place) → position place < n → NamesBlock image block place → Contains places place
