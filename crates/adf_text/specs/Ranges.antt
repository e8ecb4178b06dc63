-- Numbers as ranges, each on a line of its own.
use Rattle.std.specs.Prelude.{ℕ, ◌+◌, ◌==◌, List, [], ◌∷◌, ◌++◌, codes, decimal, if◌then◌else◌}

-- a range of numbers, on a line of its own
abbrev pub range_line : ℕ → ℕ → List ℕ
range_line first last = if first == last then decimal first ++ codes "\n" else decimal first ++ (codes " to " ++ (decimal last ++ codes "\n"))

-- numbers as ranges, of which the first is this one so far: a range goes on as long as the next number follows
abbrev pub ranges_from : ℕ → ℕ → List ℕ → List ℕ
ranges_from first last [] = range_line first last
ranges_from first last (next ∷ numbers) =
    if next == last + 1 then ranges_from first next numbers else range_line first last ++ ranges_from next next numbers

-- numbers in order, as ranges
abbrev pub ranges : List ℕ → List ℕ
ranges [] = []
ranges (first ∷ numbers) = ranges_from first first numbers
