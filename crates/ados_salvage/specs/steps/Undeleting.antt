-- Deleted entries while their directories are gathered.
use Rattle.std.specs.Prelude.{ℕ, List, All, Option, IsSome}
use Rattle.ados_salvage.specs.declared.known.deleted.Deleted.{Deleted}
use Rattle.ados_salvage.specs.Sound.{IsSoundHeader}
use Rattle.ados_salvage.specs.steps.Gathering.{place_at}

-- the headers of these entries are sound
abbrev pub AreHeaders : List ℕ → List Deleted → Type 0
AreHeaders image deleted = All (λ entry. IsSoundHeader image entry.header) deleted

-- the entry was found
abbrev pub IsThere : List (Option ℕ) → Deleted → Type 0
IsThere places entry = IsSome (place_at places entry.header)

-- each of these entries was found
abbrev pub HasEach : List (Option ℕ) → List Deleted → Type 0
HasEach places deleted = All (IsThere places) deleted
