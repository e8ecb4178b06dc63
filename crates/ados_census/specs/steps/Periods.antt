-- How the code sees that bytes repeat a text: they begin with it, and each byte is the one a text before it.
use Rattle.std.specs.Prelude.{◌≡◌, ℕ, ◌+◌, ◌<◌, ◌%◌, List, length, slice_index}

-- the first bytes, as many as the text has, are the text from byte `start` of it on
abbrev pub BeginsFrom : List ℕ → List ℕ → ℕ → Type 0
BeginsFrom text bytes start = (i : ℕ) → i < length bytes → i < length text → slice_index bytes i ≡ slice_index text ((start + i) % length text)

-- each byte is the one that many bytes before it
abbrev pub HasPeriod : List ℕ → ℕ → Type 0
HasPeriod bytes period = (i : ℕ) → i + period < length bytes → slice_index bytes (i + period) ≡ slice_index bytes i
