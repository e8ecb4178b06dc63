-- Texts for people: control characters are written as escapes.
use Rattle.std.specs.Prelude.{ℕ, ◌==◌, ◌&&◌, Bool, not, if◌then◌else◌, List, flat_map}
use Rattle.std.specs.Char.{encode_utf8}
use Rattle.std.specs.Str.{chars}
use Rattle.percent_encoding.specs.Percent.{percent_encode_byte}
use Rattle.adf_text.specs.Escapes.{is_control}

-- the bytes for a letter: an escape for a control character, otherwise its UTF-8; line feeds stay if the text has lines
abbrev pub plain_letter : Bool → ℕ → List ℕ
plain_letter has_lines c = if is_control c && not (has_lines && c == 10) then percent_encode_byte c else encode_utf8 c

-- the bytes for a text
abbrev pub plain : Bool → List ℕ → List ℕ
plain has_lines text = flat_map (plain_letter has_lines) (chars text)
