-- How a search for images goes on.
use Rattle.std.specs.Prelude.{◌≡◌, ℕ, false, cond, List, [], ◌∷◌, ◌++◌, map}
use Rattle.std.specs.String.{string_bytes}
use Rattle.adf_archive.specs.NameLists.{is_name}
use Rattle.adf_archive.specs.declared.finding.FoundImages.{FoundImages}

-- these paths were added, unless a directory was found
abbrev pub AddsOwn : FoundImages → FoundImages → List (List ℕ) → Type 0
AddsOwn old new added =
    new.in_directory ≡ false → (old.in_directory ≡ false) × (map string_bytes new.paths.items ≡ map string_bytes old.paths.items ++ added)

-- a name; none if it is empty
abbrev pub name_or_none : List ℕ → List (List ℕ)
name_or_none name = cond (is_name name) (name ∷ []) []
