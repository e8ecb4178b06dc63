-- What more is known of a refused change.
use Rattle.std.specs.Prelude.{◌≡◌, ℕ, List, false}
use Rattle.ados_model.specs.Stands.{Stands}
use Rattle.ados_model.specs.Tree.{Tree}
use Rattle.adf_text.specs.Letters.{letters}
use Rattle.adf_export.specs.Listing.{path_of}
use Rattle.adf_export.specs.Words.{LeadsTo}
use Rattle.adf_import.specs.Pruned.{Denies}

-- the path from the root of an entry below the one at this path; its protection bits deny that it is deleted
abbrev pub IsDeniedPath : List ℕ → List ℕ → List ℕ → Type 0
IsDeniedPath image word path =
    (t : Tree) → Stands image t → (key : ℕ) × (entry : ℕ) × LeadsTo t word key × Denies t key false entry × (path ≡ letters (path_of t entry))
