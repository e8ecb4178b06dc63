-- The lines of a script.
use Rattle.std.specs.Prelude.{ℕ, Bool, true, not, ◌==◌, nat_lt, if◌then◌else◌, List, [], ◌∷◌, length, filter}
use Rattle.std.specs.List.{enumerate_from}

-- a byte added at the start of the first line
abbrev pub on_first : ℕ → List (List ℕ) → List (List ℕ)
on_first byte [] = (byte ∷ []) ∷ []
on_first byte (line ∷ lines) = (byte ∷ line) ∷ lines

-- lines end in a line feed; the last may have none
abbrev pub lines_of : List ℕ → List (List ℕ)
lines_of [] = []
lines_of (byte ∷ bytes) = if byte == 10 then [] ∷ lines_of bytes else on_first byte (lines_of bytes)

-- an empty line, or one that starts with `#`, is skipped
abbrev pub is_skipped : List ℕ → Bool
is_skipped [] = true
is_skipped (byte ∷ bytes) = byte == 35

-- the lines that are not skipped, each with its number among all lines; the first line has this number
abbrev pub kept_from : ℕ → List ℕ → List (ℕ × List ℕ)
kept_from number script = filter (λ line. not (is_skipped line.1)) (enumerate_from number (lines_of script))

-- the lines that are not skipped, each with its number among all lines from 1
abbrev pub kept_lines : List ℕ → List (ℕ × List ℕ)
kept_lines script = kept_from 1 script

-- a script of more than 1,048,576 bytes is not run
abbrev pub is_too_long : List ℕ → Bool
is_too_long script = nat_lt 1048576 (length script)
