-- The results of parts of the reader for a line, in terms of its letters.
use Rattle.std.specs.Prelude.{◌≡◌, ◌⊎◌, ℕ, ◌<◌, false, true, List, [], ◌∷◌, ◌++◌, length, All, ⊤}
use Rattle.adf_text.specs.declared.letters.LettersFault.{LettersFault}
use Rattle.adf_text.specs.declared.letters.LettersFault.TheVariants as Letters
use Rattle.adf_text.specs.declared.uaem_reader.UaemFault.{UaemFault}
use Rattle.adf_text.specs.declared.uaem_reader.UaemFault.TheVariants.{NoByte, Control, LongComment, Memory}
use Rattle.adf_text.specs.Escapes.{is_control}
use Rattle.adf_text.specs.UaemReads.{IsLineEnd, BeginsWithBits, comment_of}

-- a fault of the letters, as a fault of the line
abbrev pub uaem_fault : LettersFault → UaemFault
uaem_fault (Letters.NoByte letter place) = NoByte letter place
uaem_fault Letters.Memory = Memory

-- the end of a line: nothing, or a control character and more
abbrev pub StopsLine : List ℕ → Type 0
StopsLine [] = ⊤
StopsLine (c ∷ more) = is_control c ≡ true

-- the text is this line without control characters, and an end
pub record IsOnlyLine (text line : List ℕ) : Type 0 where
  pub end : List ℕ
  pub ends : IsLineEnd end
  pub plain : All (λ c. is_control c ≡ false) line
  pub whole : text ≡ line ++ end

-- the first control character of the text is at this position, and it is not an end
pub record Breaks (text : List ℕ) (place : ℕ) : Type 0 where
  pub front : List ℕ
  pub control : ℕ
  pub more : List ℕ
  pub whole : text ≡ front ++ control ∷ more
  pub plain : All (λ c. is_control c ≡ false) front
  pub stands : is_control control ≡ true
  pub no_end : IsLineEnd (control ∷ more) → ⊥
  pub is_place : place ≡ length front

-- the fault is that of such a position
abbrev pub BreaksLine : List ℕ → UaemFault → Type 0
BreaksLine text fault = (place : ℕ) × (fault ≡ Control place) × Breaks text place

-- the line starts with the letters of no bits
abbrev pub HasNoBits : List ℕ → Type 0
HasNoBits line = (bits : ℕ) (behind : List ℕ) → BeginsWithBits line bits behind → ⊥

-- the fault says that this many bytes are more than 79
abbrev pub IsLong : List ℕ → UaemFault → Type 0
IsLong bytes fault = (fault ≡ LongComment (length bytes)) × (79 < length bytes)

-- the fault is out of memory, or a comment that is too long
abbrev pub IsTooLong : List ℕ → UaemFault → Type 0
IsTooLong behind fault = (fault ≡ Memory) ⊎ IsLong (comment_of behind) fault
