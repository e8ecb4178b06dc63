-- Which bytes are a path, its part with steps, and a law of names.
use Rattle.std.specs.Prelude.{ℕ, if◌then◌else◌, ◌<◌, ◌≤◌, List, length, All, ◌≡◌}
use Rattle.std.specs.List.{after_first}
use Rattle.ados_name.specs.Name.{Same, is_colon, is_from_root, slot}

-- the part with the steps: everything after the first `:`, or the whole path if it has none
abbrev pub walked_part : List ℕ → List ℕ
walked_part path = if is_from_root path then after_first is_colon path else path

-- a path has at most 255 bytes
pub record IsPathText (path : List ℕ) : Type 0 where
  pub short : length path ≤ 255
  pub bytes : All (λ c. c < 256) path

-- Law: names that are the same have the same slot.
abbrev pub SameNameSameSlot : Type 0
SameNameSameSlot = (name other : List ℕ) → Same name other → slot name ≡ slot other
