-- Consecutive reads.
use Rattle.std.specs.Prelude.{◌≡◌, ℕ, ◌<◌, ◌≤◌, List, ◌++◌, length, Option}
use Rattle.std.specs.Io.KnownBytes.{Consumes, IsAtEnd}

-- one read put these bytes after the existing ones: at most as many as there was room for, and none only at the end
pub record ReadsPart (room : ℕ) (old new : Option (List ℕ)) (before after : List ℕ) (count : ℕ) : Type 0 where
  pub part : List ℕ
  pub consumed : Consumes old new part
  pub grown : after ≡ before ++ part
  pub counted : length part ≡ count
  pub within : count ≤ room
  pub ended : count ≡ 0 → 0 < room → IsAtEnd new

-- this many reads, each with at least one byte, put these bytes after the existing ones: at most `most` in all, and
-- fewer only at the reader's end
pub record ReadsOn (most : ℕ) (old new : Option (List ℕ)) (before after : List ℕ) (reads : ℕ) : Type 0 where
  pub rest : List ℕ
  pub consumed : Consumes old new rest
  pub grown : after ≡ before ++ rest
  pub within : length after ≤ most
  pub many : reads ≤ length rest
  pub ended : length after < most → IsAtEnd new

-- a reader had this many bytes up to its end
abbrev pub ReadsRest : Option (List ℕ) → Option (List ℕ) → ℕ → Type 0
ReadsRest old new count = (rest : List ℕ) × Consumes old new rest × IsAtEnd new × (length rest ≡ count)

-- each of this many reads returned at least one byte
abbrev pub GivesOn : ℕ → Option (List ℕ) → Option (List ℕ) → Type 0
GivesOn reads old new = (given : List ℕ) × Consumes old new given × (reads ≤ length given)
