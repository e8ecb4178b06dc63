-- What is known of an image while its deleted entries are told.
use Rattle.std.specs.Prelude.{◌≡◌, ℕ, ◌⊎◌, Bool, true, false, List, Option, Some}
use Rattle.ados_check.specs.declared.mark.Mark.{Mark}
use Rattle.ados_check.specs.Marks.{mark_at}
use Rattle.ados_model.specs.declared.fault.FaultKind.TheVariants.{MarkedFree}
use Rattle.ados_model.specs.declared.fault.VolumeFault.{VolumeFault}
use Rattle.ados_model.specs.Faults.{InImage, Reached, root_of}
use Rattle.ados_salvage.specs.declared.known.claims.Claim.{Claim}
use Rattle.ados_salvage.specs.declared.known.claims.Claim.TheVariants.{Several}

-- each marked block of the image is reached in the role of its mark
abbrev pub AreOfReached : List ℕ → List (Option Mark) → Type 0
AreOfReached image marks = (block : ℕ) (mark : Mark) → mark_at marks block ≡ Some mark → InImage image block → Reached image block mark.role

-- a fault for which a bitmap is not trusted: one at the root, or a reached block that is marked free
abbrev pub IsDoubt : List ℕ → VolumeFault → Type 0
IsDoubt image fault = (fault.kind ≡ MarkedFree) ⊎ (fault.block ≡ root_of image)

-- whether two headers have the block
abbrev pub is_several : Claim → Bool
is_several Several = true
is_several claim = false
