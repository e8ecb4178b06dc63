-- The contents of a note that is read, and why one cannot be read.
use Rattle.std.specs.Prelude.{◌≡◌, ◌⊎◌, ℕ, ◌%◌, ◌<◌, false, true, List, [], ◌∷◌, ◌++◌, length, All, ⊤}
use Rattle.std.specs.Str.{IsUtf8, IsValidUpTo}
use Rattle.percent_encoding.specs.Percent.{percent_decode}
use Rattle.adf_text.specs.declared.uaem.Uaem.{Uaem}
use Rattle.adf_text.specs.declared.uaem_reader.UaemFault.{UaemFault}
use Rattle.adf_text.specs.declared.uaem_reader.UaemFault.TheVariants.{NotUtf8, NoByte, Control, NoProtection, NoDate, LongComment, Memory}
use Rattle.adf_text.specs.Letters.{letters, IsFirstForeign}
use Rattle.adf_text.specs.Escapes.{is_control}
use Rattle.adf_text.specs.ProtectionLetters.{protection_letters}
use Rattle.adf_text.specs.Dated.{IsStamp, BeginsWithDate, HasNoDate}
use Rattle.adf_text.specs.Uaem.{IsNoted, IsLineOf}

-- the end of a line: nothing, a line feed, or a carriage return and a line feed
abbrev pub IsLineEnd : List ℕ → Type 0
IsLineEnd end = (end ≡ []) ⊎ ((end ≡ 10 ∷ []) ⊎ (end ≡ 13 ∷ 10 ∷ []))

-- a letter of a line: a byte that is not a control character
pub record IsLineLetter (c : ℕ) : Type 0 where
  pub byte : c < 256
  pub plain : is_control c ≡ false

-- the file is this one line in UTF-8, with or without an end
pub record HasLine (file line : List ℕ) : Type 0 where
  pub end : List ℕ
  pub ends : IsLineEnd end
  pub plain : All IsLineLetter line
  pub whole : file ≡ letters (line ++ end)

-- the line starts with the letters of these bits and a space, and `behind` follows
abbrev pub BeginsWithBits : List ℕ → ℕ → List ℕ → Type 0
BeginsWithBits line bits behind = line ≡ protection_letters bits ++ 32 ∷ behind

-- the comment in the rest after the date: none, or the bytes of the letters after the space
abbrev pub comment_of : List ℕ → List ℕ
comment_of [] = []
comment_of (space ∷ shown) = percent_decode shown

-- the line has these contents: eight bits, a date, and a comment or none
pub record Tells (line : List ℕ) (noted : Uaem) : Type 0 where
  pub dated : List ℕ
  pub behind : List ℕ
  pub bits : BeginsWithBits line noted.protect.0 dated
  pub eight : noted.protect.0 < 256
  pub date : BeginsWithDate dated noted.date behind
  pub comment : noted.comment ≡ comment_of behind

-- the file's line has these contents
abbrev pub Reads : List ℕ → Uaem → Type 0
Reads file noted = (line : List ℕ) × HasLine file line × Tells line noted

-- after this many letters the line has its first control character, which is not its end
pub record IsFirstControl (file : List ℕ) (place : ℕ) : Type 0 where
  pub front : List ℕ
  pub control : ℕ
  pub more : List ℕ
  pub whole : file ≡ letters (front ++ control ∷ more)
  pub plain : All IsLineLetter front
  pub stands : is_control control ≡ true
  pub no_end : IsLineEnd (control ∷ more) → ⊥
  pub is_place : place ≡ length front

-- the line does not start with the letters of any bits
pub record LacksBits (file : List ℕ) : Type 0 where
  pub line : List ℕ
  pub has : HasLine file line
  pub none : (bits : ℕ) (behind : List ℕ) → BeginsWithBits line bits behind → ⊥

-- no date follows the bits
pub record LacksDate (file : List ℕ) : Type 0 where
  pub line : List ℕ
  pub has : HasLine file line
  pub bits : ℕ
  pub dated : List ℕ
  pub begins : BeginsWithBits line bits dated
  pub none : HasNoDate dated

-- the comment has this many bytes, more than allowed
pub record HasLongComment (file : List ℕ) (long : ℕ) : Type 0 where
  pub noted : Uaem
  pub stamp : IsStamp noted.date
  pub reads : Reads file noted
  pub is_long : long ≡ length noted.comment
  pub past : 79 < long

-- what a fault says about the file
abbrev pub IsUaemFaultOf : List ℕ → UaemFault → Type 0
IsUaemFaultOf file (NotUtf8 place) = (IsUtf8 file → ⊥) × IsValidUpTo file place
IsUaemFaultOf file (NoByte letter place) = IsFirstForeign file letter place
IsUaemFaultOf file (Control place) = IsFirstControl file place
IsUaemFaultOf file NoProtection = LacksBits file
IsUaemFaultOf file NoDate = LacksDate file
IsUaemFaultOf file (LongComment long) = HasLongComment file long
IsUaemFaultOf file Memory = ⊤

-- Law: a file is read as at most one note.
abbrev pub ReadsOne : Type 0
ReadsOne = (file : List ℕ) (noted other : Uaem) → IsNoted noted → IsNoted other → Reads file noted → Reads file other → noted ≡ other

-- Law: a file with a fault cannot be read.
abbrev pub FaultReadsNone : Type 0
FaultReadsNone = (file : List ℕ) (fault : UaemFault) → IsUaemFaultOf file fault
    → (fault ≡ Memory) ⊎ ((noted : Uaem) → IsNoted noted → Reads file noted → ⊥)

-- the same with only the low eight bits
abbrev pub low_bits : Uaem → Uaem
low_bits noted = record noted { protect = record { 0 = noted.protect.0 % 256 } }

-- Law: the line of a note is read back as the same eight bits, date and comment.
abbrev pub UaemComesBack : Type 0
UaemComesBack = (line : List ℕ) (noted : Uaem) → IsNoted noted → IsLineOf noted line → Reads line (low_bits noted)
