-- Names, letters, protection bits and notes for C.
use Rattle.std.specs.Prelude.{◌≡◌, ◌≢◌, ℕ, ℤ, List, All, Result, MatchResult}
use Rattle.std.specs.Str.{IsUtf8, chars}
use Rattle.ados_name.specs.declared.stamp.Date3.{Date3}
use Rattle.ados_name.specs.Name.{IsName, IsComment}
use Rattle.adf_text.specs.declared.uaem.Uaem.{Uaem}
use Rattle.adf_text.specs.declared.uaem_reader.UaemFault.{UaemFault}
use Rattle.adf_text.specs.declared.uaem_reader.UaemFault.TheVariants as faults
use Rattle.adf_text.specs.Letters.{IsByte, letters}
use Rattle.adf_text.specs.Escapes.{unescaped}
use Rattle.adf_text.specs.HostNames.{host_name}
use Rattle.adf_text.specs.ProtectionLetters.{AreLetters, protection_of}
use Rattle.adf_text.specs.Uaem.{IsLineOf}
use Rattle.adf_text.specs.UaemReads.{IsUaemFaultOf, Reads}
use Rattle.adf_c.specs.Buffers.{Puts, Refuses}
use Rattle.adf_c.specs.Dates.{told_date}
use Rattle.adf_c.specs.Ends.{ComesTo}
use Rattle.adf_c.specs.declared.values.date.JipDate.{JipDate}
use Rattle.adf_c.specs.declared.values.refusal.Refusal.{Refusal}
use Rattle.adf_c.specs.declared.values.refusal.Refusal.TheVariants.{WrongArgument}

-- text in UTF-8, all letters of which are bytes
abbrev pub HasByteLetters : List ℕ → Type 0
HasByteLetters text = IsUtf8 text × All IsByte (chars text)

-- the bytes of its letters
abbrev pub AreBytesOf : List ℕ → List ℕ → Type 0
AreBytesOf text bytes = HasByteLetters text × (letters bytes ≡ text)

-- the name of the host file for an entry's name, and the bytes that the name of a host file stands for
abbrev pub IsHostOf : List ℕ → List ℕ → Type 0
IsHostOf name host = IsName name × (host ≡ host_name name)

abbrev pub IsNamedBy : List ℕ → List ℕ → Type 0
IsNamedBy host bytes = HasByteLetters host × (bytes ≡ unescaped host)

-- the bits of letters; if there are none, they are unchanged
abbrev pub BitsEnd : List ℕ → ℕ → ℕ → ℤ → Type 0
BitsEnd text before bits =
    ComesTo (AreLetters text × (bits ≡ protection_of text))
    (λ refusal. (refusal ≡ WrongArgument) × (¬ AreLetters text) × (bits ≡ before))

-- the line of a note with these bits, date and comment
abbrev pub noted : ℕ → Date3 → List ℕ → Uaem
noted bits date comment = record { protect = record { 0 = bits }; date = date; comment = comment }

abbrev pub IsNoteOf : ℕ → Date3 → List ℕ → List ℕ → Type 0
IsNoteOf bits date comment line = IsComment comment × IsLineOf (noted bits date comment) line

-- a file has a fault, apart from a lack of memory
abbrev pub HasFault : List ℕ → Type 0
HasFault file = (fault : UaemFault) × (fault ≢ faults.Memory) × IsUaemFaultOf file fault

-- the note of a file is told: its bits, its date, and its comment
pub record TellsNote (file : List ℕ) (bits : ℕ) (date : JipDate) (before after : List ℕ) (needed : ℕ) : Type 0 where
  pub note : Uaem
  pub reads : Reads file note
  pub protect : bits ≡ note.protect.0
  pub date_is : date ≡ told_date note.date
  pub puts : Puts note.comment before after needed

-- the result of reading a note, and the same for C; if it is refused, nothing is written
abbrev pub NoteComes : List ℕ → Result Uaem Refusal → Type 0
NoteComes file result = MatchResult result (Reads file) (Refuses (HasFault file))

abbrev pub NoteEnds : List ℕ → ℕ → ℕ → JipDate → JipDate → List ℕ → List ℕ → ℕ → ℕ → ℤ → Type 0
NoteEnds file bits_before bits date_before date before after needed_before needed =
    ComesTo (TellsNote file bits date before after needed)
    (λ refusal. Refuses (HasFault file) refusal × (bits ≡ bits_before) × (date ≡ date_before) × (after ≡ before) × (needed ≡ needed_before))
