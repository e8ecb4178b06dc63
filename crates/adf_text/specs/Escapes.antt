-- Escapes of bytes: `%` and two upper-case hexadecimal digits; and the way back.
use Rattle.std.specs.Prelude.{ℕ, ◌==◌, ◌&&◌, ◌||◌, Bool, nat_lt, nat_le, if◌then◌else◌, List, [], ◌∷◌, flat_map}
use Rattle.std.specs.Str.{chars}
use Rattle.percent_encoding.specs.Percent.{percent_encode_byte, percent_decode}
use Rattle.adf_text.specs.declared.escapes.Place.{Place}
use Rattle.adf_text.specs.declared.escapes.Place.TheVariants.{HostName, Comment}

-- control characters: 00 to 1F and 7F to 9F
abbrev pub is_control : ℕ → Bool
is_control b = nat_lt b 32 || (nat_le 127 b && nat_lt b 160)

-- the bytes that are escaped: control characters and `%`; in a host's name also `\`
abbrev pub needs_escape : Place → ℕ → Bool
needs_escape HostName b = is_control b || b == 37 || b == 92
needs_escape Comment b = is_control b || b == 37

-- a byte, escaped if necessary
abbrev pub escaped_byte : Place → ℕ → List ℕ
escaped_byte place b = if needs_escape place b then percent_encode_byte b else b ∷ []

-- bytes, each escaped if necessary
abbrev pub escaped : Place → List ℕ → List ℕ
escaped place bytes = flat_map (escaped_byte place) bytes

-- the letters of a text, with each `%` and two hexadecimal digits as the byte of these digits
abbrev pub unescaped : List ℕ → List ℕ
unescaped text = percent_decode (chars text)
