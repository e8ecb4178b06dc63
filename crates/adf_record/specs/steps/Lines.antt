-- What is before a line of a bundle's text, and the path in it.
use Rattle.std.specs.Prelude.{◌≡◌, ℕ, ◌==◌, List, codes, if◌then◌else◌, Some, slice_get}
use Rattle.adf_record.specs.declared.bundle.BundleEntry.{BundleEntry}
use Rattle.adf_record.specs.Described.{IsPathOf}

-- what separates the line of the entry at a position from the text before it
abbrev pub separator : ℕ → List ℕ
separator place = if place == 0 then codes "\n" else codes ",\n"

-- the entry at this position has this path
abbrev pub IsPathAt : List BundleEntry → ℕ → List ℕ → Type 0
IsPathAt entries place path = (entry : BundleEntry) → slice_get entries place ≡ Some entry → IsPathOf entries entry path
