-- What was written, also by a writer that failed.
use Rattle.std.specs.Prelude.{◌≡◌, ℕ, List, ◌++◌, Option}
use Rattle.std.specs.Io.KnownBytes.{Appends}

-- the text that was written fits; the writer is given before and after
abbrev pub Writes : Option (List ℕ) → Option (List ℕ) → (List ℕ → Type 0) → Type 0
Writes old new IsFit = (written : List ℕ) × Appends old new written × IsFit written

-- the text begins with these bytes
abbrev pub IsPrefixOf : List ℕ → List ℕ → Type 0
IsPrefixOf text written = (rest : List ℕ) × (text ≡ written ++ rest)

-- a prefix of this text was written; the writer is given before and after
abbrev pub WritesFront : Option (List ℕ) → Option (List ℕ) → List ℕ → Type 0
WritesFront old new text = (written : List ℕ) × Appends old new written × IsPrefixOf text written

-- a prefix of some text of this kind was written
abbrev pub WritesFrontOf : Option (List ℕ) → Option (List ℕ) → (List ℕ → Type 0) → Type 0
WritesFrontOf old new IsText = (text : List ℕ) × IsText text × WritesFront old new text

-- a prefix of a text is written, and the rest is kept
abbrev pub Passes : Option (List ℕ) → Option (List ℕ) → List ℕ → List ℕ → Type 0
Passes old new text rest = Writes old new (λ written. text ≡ written ++ rest)
