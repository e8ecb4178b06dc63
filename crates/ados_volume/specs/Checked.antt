-- The result of `check`, and that it decides.
use Rattle.std.specs.Prelude.{◌≡◌, ◌↔◌, ◌⊎◌, ℕ, List, Result, IsOk, IfOk, IsErrAnd, MatchResult}
use Rattle.ados_model.specs.Accepted.{Accepts, HandsBack, ShowsNoFault}
use Rattle.ados_model.specs.Stands.{Stands}
use Rattle.ados_model.specs.Tree.{Tree}
use Rattle.ados_model.specs.declared.fault.FaultKind.TheVariants.{NoMemory}
use Rattle.ados_volume.specs.Shown.{Shown}
use Rattle.ados_check.specs.declared.accept.Rejected.{Rejected}

-- a volume over the accepted image, or the image returned with the reason
abbrev pub Checks : List ℕ → Result Shown Rejected → Type 0
Checks image answer =
    MatchResult answer (λ volume. Accepts image volume.was_validated volume.image)
    (λ rejected. HandsBack image rejected.image rejected.fault)

-- the image represents exactly one tree
abbrev pub StandsForOne : List ℕ → Type 0
StandsForOne image = (t : Tree) × Stands image t × ((other : Tree) → Stands image other → other ≡ t)

-- the check ran out of memory
abbrev pub WantsMemory : Result Shown Rejected → Type 0
WantsMemory answer = IsErrAnd answer (λ rejected. rejected.fault.kind ≡ NoMemory)

-- the check ran out of memory; or the result is Ok exactly if the image shows no fault, and then the volume's image
-- represents exactly one tree
abbrev pub Decides : List ℕ → Result Shown Rejected → Type 0
Decides image answer =
    WantsMemory answer ⊎ ((IsOk answer ↔ ShowsNoFault image) × IfOk answer (λ volume. StandsForOne volume.image))

-- each result of `check` decides
abbrev pub CheckDecides : Type 0
CheckDecides = (image : List ℕ) (answer : Result Shown Rejected) → Checks image answer → Decides image answer
