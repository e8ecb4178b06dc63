-- Letters of ISO 8859-1, as text in UTF-8.
use Rattle.std.specs.Prelude.{◌≡◌, ℕ, ◌<◌, ◌≤◌, List, take, All, Some, slice_get, ⊤}
use Rattle.std.specs.Str.{encode_utf8_all, chars}
use Rattle.adf_text.specs.declared.letters.LettersFault.{LettersFault}
use Rattle.adf_text.specs.declared.letters.LettersFault.TheVariants.{NoByte, Memory}

-- a byte, and the letter of a byte: U+00b for byte b
abbrev pub IsByte : ℕ → Type 0
IsByte b = b < 256

-- the text of these bytes, one letter for each
abbrev pub letters : List ℕ → List ℕ
letters bytes = encode_utf8_all bytes

-- the letter at this position is the first past U+00FF
pub record IsFirstForeign (text : List ℕ) (letter place : ℕ) : Type 0 where
  pub stands : slice_get (chars text) place ≡ Some letter
  pub past : 256 ≤ letter
  pub before : All IsByte (take place (chars text))

-- what a fault says about the text
abbrev pub IsFaultOf : List ℕ → LettersFault → Type 0
IsFaultOf text (NoByte letter place) = IsFirstForeign text letter place
IsFaultOf text Memory = ⊤

-- Law: the letters of bytes are read back as these bytes.
abbrev pub LettersComeBack : Type 0
LettersComeBack = (bytes : List ℕ) → All IsByte bytes → chars (letters bytes) ≡ bytes
