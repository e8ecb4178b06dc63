-- The directories on the way to a path.
use Rattle.std.specs.Prelude.{ℕ, suc, zero, Bool, not, ◌&&◌, ◌||◌, if◌then◌else◌, List, [], ◌∷◌, ◌++◌, length, slice_index, take}
use Rattle.ados_name.specs.Name.{is_from_root, is_slash}

-- a `/` behind the volume's name ends the path of a directory on the way
abbrev pub ends_front : List ℕ → ℕ → Bool
ends_front path i = is_slash (slice_index path i) && (is_from_root (take i path) || not (is_from_root path))

-- the paths of the directories on the way that end before this byte of a path, the shortest first
abbrev pub fronts_before : List ℕ → ℕ → List (List ℕ)
fronts_before path zero = []
fronts_before path (suc i) = fronts_before path i ++ (if ends_front path i then take i path ∷ [] else [])

-- the paths of all directories on the way to a path
abbrev pub fronts : List ℕ → List (List ℕ)
fronts path = fronts_before path (length path)
