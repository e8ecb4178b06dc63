-- How changes of a volume by arguments end, one after the other.
use Rattle.std.specs.Prelude.{◌≡◌, ◌++◌, ◌∷◌, ℕ, List, [], Contains, Result, Ok, Err, ⊤}
use Rattle.std.specs.Str.{chars}
use Rattle.std.specs.String.{string_bytes}
use Rattle.ados_model.specs.declared.dos_error.DosError.{DosError}
use Rattle.ados_model.specs.Keys.{HasTree}
use Rattle.ados_volume.specs.Shown.{Shown}
use Rattle.adf_cli.specs.declared.refused.Refused.{Refused as Told}
use Rattle.adf_import.specs.declared.fault.InFault.{InFault}
use Rattle.adf_import.specs.declared.fault.InFault.TheVariants.{Letter, Memory, Refused}
use Rattle.adf_import.specs.Words.{IsForeign}

-- the volume was changed at each path in turn; each change leads to a volume that represents a tree
pub data AreDone (Does : List ℕ → Shown → Shown → Result Unit DosError → Type 0) : List (List ℕ) → Shown → Shown → Type 0 where
  none : {volume : Shown} → AreDone Does [] volume volume
  one_more : (paths : List (List ℕ)) (path : List ℕ) {old between new : Shown}
      → AreDone Does paths old between → Does path between new (Ok tt) → HasTree new.image → AreDone Does (paths ++ path ∷ []) old new

-- the paths before this one are done, and this one is refused with this error
pub record StopsAtPath (Does : List ℕ → Shown → Shown → Result Unit DosError → Type 0) (paths : List (List ℕ)) (old new : Shown) (error : DosError) : Type 0 where
  pub before : List (List ℕ)
  pub path : List ℕ
  pub behind : List (List ℕ)
  pub all : paths ≡ before ++ path ∷ behind
  pub between : Shown
  pub done : AreDone Does before old between
  pub refused : Does path between new (Err error)

-- all paths are done, or one of them is refused
abbrev pub EndsOneByOne : (List ℕ → Shown → Shown → Result Unit DosError → Type 0) → List (List ℕ) → Shown → Shown → Result Unit DosError → Type 0
EndsOneByOne Does paths old new (Ok _) = AreDone Does paths old new
EndsOneByOne Does paths old new (Err error) = StopsAtPath Does paths old new error

-- a change at a path, made at that of an argument
abbrev pub AtWord : (List ℕ → Shown → Shown → Result Unit DosError → Type 0) → List ℕ → Shown → Shown → Result Unit DosError → Type 0
AtWord Does word = Does (chars word)

-- the arguments before this one are done, and this one is refused with this error
pub record StopsAtWord (Does : List ℕ → Shown → Shown → Result Unit DosError → Type 0) (words : List (List ℕ)) (old new : Shown) (told : Told) : Type 0 where
  pub before : List (List ℕ)
  pub word : List ℕ
  pub behind : List (List ℕ)
  pub all : words ≡ before ++ word ∷ behind
  pub between : Shown
  pub done : AreDone (AtWord Does) before old between
  pub refused : Does (chars word) between new (Err told.error)
  pub path : string_bytes told.path ≡ word

-- all arguments are done, or one of them is refused; or memory ran out at any point
abbrev pub EndsInTurn : (List ℕ → Shown → Shown → Result Unit DosError → Type 0) → List (List ℕ) → Shown → Shown → Result Unit InFault → Type 0
EndsInTurn Does words old new (Ok _) = AreDone (AtWord Does) words old new
EndsInTurn Does words old new (Err (Refused told)) = StopsAtWord Does words old new told
EndsInTurn Does words old new (Err Memory) = ⊤
EndsInTurn Does words old new (Err _) = ⊥

-- the change of one argument is made; or refused with this error and this argument
abbrev pub EndsAt : (Shown → Shown → Result Unit DosError → Type 0) → List ℕ → Shown → Shown → Result Unit InFault → Type 0
EndsAt Does word old new (Ok _) = Does old new (Ok tt)
EndsAt Does word old new (Err (Refused told)) = Does old new (Err told.error) × (string_bytes told.path ≡ word)
EndsAt Does word old new (Err Memory) = ⊤
EndsAt Does word old new (Err _) = ⊥

-- the arguments are read first: one of them has a letter past U+00FF and is reported, and nothing changes; or the
-- change ends like this
abbrev pub ReadsFirst : List (List ℕ) → (Shown → Shown → Result Unit InFault → Type 0) → Shown → Shown → Result Unit InFault → Type 0
ReadsFirst words Ends old new (Err (Letter text)) = (new ≡ old) × Contains words (string_bytes text) × IsForeign (string_bytes text)
ReadsFirst words Ends old new result = Ends old new result
