-- Input of which only the first bytes are kept, and input without an end.
use Rattle.std.specs.Prelude.{◌≡◌, ℕ, ◌+◌, ◌<◌, ◌≤◌, List, length, take, Option}
use Rattle.std.specs.Io.KnownBytes.{Consumes, IsAtEnd}
use Rattle.adf_io.specs.declared.input.Input.{Input}

-- a reader, given before and after, was read to its end, and these are its first bytes, at most `most`
abbrev pub ReadsFront : ℕ → Option (List ℕ) → Option (List ℕ) → List ℕ → Type 0
ReadsFront most old new bytes = (input : List ℕ) × Consumes old new input × IsAtEnd new × (bytes ≡ take most input)

-- a reader, given before and after, was read to its end: its first bytes were kept, at most `most`, and the rest was
-- counted
pub record ReadsCounted (most : ℕ) (old new : Option (List ℕ)) (input : Input) : Type 0 where
  pub seen : List ℕ
  pub consumed : Consumes old new seen
  pub end : IsAtEnd new
  pub front : input.front.items ≡ take most seen
  pub counted : length seen ≡ length input.front.items + input.more

-- a reader, given before and after, returned exactly these bytes: at most `most`, and fewer only at its end
pub record ReadsUpTo (most : ℕ) (old new : Option (List ℕ)) (bytes : List ℕ) : Type 0 where
  pub consumed : Consumes old new bytes
  pub within : length bytes ≤ most
  pub ended : length bytes < most → IsAtEnd new

-- a reader, given before and after, reached no end within the limit of reads, and each read returned at least one byte
abbrev pub GivesNoEnd : Option (List ℕ) → Option (List ℕ) → Type 0
GivesNoEnd old new = (input : List ℕ) × Consumes old new input × (2097152 ≤ length input)
