-- The note that emulators keep beside a host file.
use Rattle.std.specs.Prelude.{◌≡◌, ℕ, ◌%◌, List, [], ◌∷◌, ◌++◌, codes}
use Rattle.ados_name.specs.Name.{IsComment}
use Rattle.ados_name.specs.Date.{IsTextOf}
use Rattle.adf_text.specs.declared.escapes.Place.TheVariants.{Comment}
use Rattle.adf_text.specs.declared.uaem.Uaem.{Uaem}
use Rattle.adf_text.specs.Letters.{letters}
use Rattle.adf_text.specs.Escapes.{escaped}
use Rattle.adf_text.specs.ProtectionLetters.{protection_letters}
use Rattle.adf_text.specs.Dated.{IsStamp}

-- the line: the letters of the bits, the date and the comment, separated by spaces, and a line feed
abbrev pub IsLineOf : Uaem → List ℕ → Type 0
IsLineOf noted line =
    (date : List ℕ) × IsTextOf noted.date date
    × (line ≡ letters (protection_letters noted.protect.0) ++ codes " " ++ date ++ codes " " ++ letters (escaped Comment noted.comment) ++ 10 ∷ [])

-- the contents that a note can have
pub record IsNoted (noted : Uaem) : Type 0 where
  pub date : IsStamp noted.date
  pub comment : IsComment noted.comment

-- the same eight bits, date and comment
pub record TellsSame (noted other : Uaem) : Type 0 where
  pub protect : noted.protect.0 % 256 ≡ other.protect.0 % 256
  pub date : noted.date ≡ other.date
  pub comment : noted.comment ≡ other.comment

-- Law: notes with the same line are the same.
abbrev pub LineTellsOne : Type 0
LineTellsOne = (line : List ℕ) (noted other : Uaem) → IsNoted noted → IsNoted other → IsLineOf noted line → IsLineOf other line → TellsSame noted other
