-- The faults of an image that a new bitmap mends.
use Rattle.std.specs.Prelude.{◌≡◌, ◌⊎◌, ℕ, List}
use Rattle.ados_map.specs.Pages.{IsPage}
use Rattle.ados_model.specs.declared.fault.FaultKind.{FaultKind}
use Rattle.ados_model.specs.declared.fault.FaultKind.TheVariants.{BadSum, MarkedFree}
use Rattle.ados_model.specs.Faults.{Shows}

-- the fault is that a reached block is marked free, or the wrong checksum of a bitmap block
abbrev pub IsMendable : List ℕ → FaultKind → ℕ → Type 0
IsMendable image kind block = (kind ≡ MarkedFree) ⊎ ((kind ≡ BadSum) × IsPage image block)

-- the image shows no other fault
abbrev pub ShowsOnlyMendable : List ℕ → Type 0
ShowsOnlyMendable image = (kind : FaultKind) (block : ℕ) → Shows image kind block → IsMendable image kind block
