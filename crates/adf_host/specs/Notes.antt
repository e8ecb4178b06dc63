-- Note files, paired with other files by their names.
use Rattle.std.specs.Prelude.{◌≡◌, ◌≢◌, ℕ, List, ◌++◌, codes}

-- the name of the note for a file with this name
abbrev pub note_of : List ℕ → List ℕ
note_of name = name ++ codes ".uaem"

-- a file with this name is no note
abbrev pub IsNoNote : List ℕ → Type 0
IsNoNote name = (noted : List ℕ) → name ≢ note_of noted

-- a file's name beside notes: one that would be a note's has an escape for the dot of its ending, so it is read back as
-- the same name
pub record IsBesideNotes (name beside : List ℕ) : Type 0 where
  pub no_note : IsNoNote beside
  pub same : IsNoNote name → beside ≡ name
  pub escaped : (noted : List ℕ) → name ≡ note_of noted → beside ≡ noted ++ codes "%2Euaem"
