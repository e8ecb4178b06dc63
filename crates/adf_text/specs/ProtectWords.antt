-- Protection bits as a person writes them: places as in a list, letters, or letters after a sign.
use Rattle.std.specs.Prelude.{ℕ, ◌+◌, ◌==◌, ◌&&◌, ◌||◌, Bool, not, nat_lt, if◌then◌else◌, List, [], ◌∷◌, length, map, count_by, codes, Option, Some, None, option_map}
use Rattle.std.specs.Char.{to_ascii_lowercase}
use Rattle.std.specs.List.{list_any}
use Rattle.std.specs.Str.{bytes_eq}
use Rattle.ados_name.specs.Protection.{letters}
use Rattle.adf_text.specs.declared.protect_words.Form.{Form}
use Rattle.adf_text.specs.declared.protect_words.Form.TheVariants.{Also, ButHold, Exactly, Without}
use Rattle.adf_text.specs.ProtectionLetters.{bit, has, protection_letters}

-- the text has this letter, in lower or upper case
abbrev pub spells : List ℕ → ℕ → Bool
spells text letter = list_any (λ c. to_ascii_lowercase c == letter) text

-- one letter of `hsparwed` or more, each at most once
abbrev pub is_letter_set : List ℕ → Bool
is_letter_set text = nat_lt 0 (length text) && count_by (spells text) (codes "hsparwed") == length text

-- the low eight bits of an entry that shows these letters
abbrev pub bits_showing : (ℕ → Bool) → ℕ
bits_showing shown =
    bit (shown 104) 128 + bit (shown 115) 64 + bit (shown 112) 32 + bit (shown 97) 16
    + bit (not (shown 114)) 8 + bit (not (shown 119)) 4 + bit (not (shown 101)) 2 + bit (not (shown 100)) 1

-- the same letters, in lower or upper case
abbrev pub are_same : List ℕ → List ℕ → Bool
are_same text other = bytes_eq (map to_ascii_lowercase text) (map to_ascii_lowercase other)

-- the form of letters after a sign: `+` adds them, `-` takes them away, `=` sets them
abbrev pub signed : ℕ → Option Form
signed sign = if sign == 43 then Some Also else if sign == 45 then Some Without else if sign == 61 then Some Exactly else None

-- a sign and letters
abbrev pub signed_word : List ℕ → Option (Form × List ℕ)
signed_word [] = None
signed_word (sign ∷ letters) = if is_letter_set letters then option_map (λ form. (form, letters)) (signed sign) else None

-- the form and the letters of a word: the eight places of some bits, the seven places that `list` prints, letters, or a sign and
-- letters
abbrev pub protect_word : List ℕ → Option (Form × List ℕ)
protect_word text =
    if are_same text (protection_letters (bits_showing (spells text))) then Some (Exactly, text)
    else if are_same text (letters (bits_showing (spells text))) then Some (ButHold, text)
    else if is_letter_set text then Some (Exactly, text)
    else signed_word text

-- whether an entry shows a letter after a word, by the letters that it showed before: the word's letters and no others; the same,
-- but `h` stays; also the word's letters; or all but these
abbrev pub shows : Form → (ℕ → Bool) → (ℕ → Bool) → ℕ → Bool
shows Exactly spelled shown letter = spelled letter
shows ButHold spelled shown letter = if letter == 104 then shown letter else spelled letter
shows Also spelled shown letter = spelled letter || shown letter
shows Without spelled shown letter = shown letter && not (spelled letter)

-- the low eight bits after a word
abbrev pub bits_after : Form → List ℕ → ℕ → ℕ
bits_after form letters old = bits_showing (shows form (spells letters) (has (protection_letters old)))
