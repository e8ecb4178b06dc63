-- The rest of a script.
use Rattle.std.specs.Prelude.{◌≡◌, ℕ, ◌+◌, List, Some, ◌++◌, length, slice_get}
use Rattle.adf_script.specs.Lines.{kept_from, kept_lines}
use Rattle.adf_script.specs.Next.{LinesView}

-- after this many of all lines and this many packet lines, these bytes are left of a script
abbrev pub IsLeft : List ℕ → ℕ → ℕ → List ℕ → Type 0
IsLeft script number count rest =
    (passed : List (ℕ × List ℕ)) × (kept_lines script ≡ passed ++ kept_from (number + 1) rest) × (length passed ≡ count)

-- the next packet line is this one, and it is then read
abbrev pub Passes : LinesView → ℕ × List ℕ → LinesView → Type 0
Passes old line new = (slice_get old.lines old.count ≡ Some line) × (new ≡ record { lines = old.lines; count = old.count + 1 })
