-- The map of a handle's image.
use Rattle.std.specs.Prelude.{◌≡◌, ⊤, ℕ, ℤ, List, length, Option, Some, None}
use Rattle.adf_c.specs.Ends.{ComesTo}
use Rattle.adf_c.specs.Lists.{copied}
use Rattle.adf_c.specs.Owners.{MapsOwners}
use Rattle.adf_c.specs.declared.values.owners.JipOwner.{JipOwner}
use Rattle.adf_c.specs.declared.values.refusal.Refusal.{Refusal}
use Rattle.adf_c.specs.declared.values.refusal.Refusal.TheVariants.{NotAnImage, NoMemory, WrongArgument}
use Rattle.adf_c.specs.declared.desk.Desk.{Desk}

-- these are the owners of the blocks of the handle's image
abbrev pub MapsHeld : Option Desk → List JipOwner → Type 0
MapsHeld held told = (desk : Desk) × (held ≡ Some desk) × MapsOwners desk.handler.image told

-- why there is no map: out of memory, or a closed handle
abbrev pub RefusesMap : Option Desk → Refusal → Type 0
RefusesMap held NotAnImage = ⊥
RefusesMap held NoMemory = ⊤
RefusesMap held WrongArgument = held ≡ None

-- the owners are copied to the array; the count is the number of blocks, with or without room for them
abbrev pub CopiesMap : Option Desk → List JipOwner → List JipOwner → ℕ → Type 0
CopiesMap held before after count =
    (told : List JipOwner) × MapsHeld held told × (after ≡ copied told before) × (count ≡ length told)

-- the result of the map by the status; if it is refused, nothing is written
abbrev pub MapEnds : Option Desk → List JipOwner → List JipOwner → ℕ → ℕ → ℤ → Type 0
MapEnds held before after count_before count =
    ComesTo (CopiesMap held before after count)
    (λ refusal. RefusesMap held refusal × (after ≡ before) × (count ≡ count_before))
