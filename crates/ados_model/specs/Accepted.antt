-- The result of `check` for an image without faults.
use Rattle.std.specs.Prelude.{◌≡◌, ◌⊎◌, ℕ, List, None, Bool, true, false}
use Rattle.ados_model.specs.Tree.{Tree}
use Rattle.ados_model.specs.Stands.{Stands}
use Rattle.ados_model.specs.declared.fault.FaultKind.{FaultKind}
use Rattle.ados_model.specs.declared.fault.FaultKind.TheVariants.{NoMemory}
use Rattle.ados_model.specs.declared.fault.VolumeFault.{VolumeFault}
use Rattle.ados_model.specs.Faults.{Shows}
use Rattle.ados_model.specs.Rebuilt.{HasValidBitmap, Rebuilt}

-- the image shows no fault at any block
abbrev pub ShowsNoFault : List ℕ → Type 0
ShowsNoFault image = (kind : FaultKind) (block : ℕ) → ¬ Shows image kind block

-- the tree has no lost blocks
abbrev pub HasNoLost : Tree → Type 0
HasNoLost t = (block : ℕ) → t.lost block ≡ None

-- the old image shows no fault, and the new one is the same image, or the old one with a rebuilt bitmap if its bitmap
-- was not valid
abbrev pub Accepts : List ℕ → Bool → List ℕ → Type 0
Accepts old false new = ShowsNoFault old × HasValidBitmap old × (new ≡ old) × ((t : Tree) × Stands new t)
Accepts old true new = ShowsNoFault old × Rebuilt old new × ((t : Tree) × Stands new t × HasNoLost t)

-- why an image is refused: it shows the fault; or there was no memory, reported at block 0
abbrev pub IsRefusal : List ℕ → VolumeFault → Type 0
IsRefusal image fault = Shows image fault.kind fault.block ⊎ ((fault.kind ≡ NoMemory) × (fault.block ≡ 0))

-- the image is returned unchanged, with the reason of the refusal
abbrev pub HandsBack : List ℕ → List ℕ → VolumeFault → Type 0
HandsBack old image fault = (image ≡ old) × IsRefusal old fault
