-- Bits 7 to 0 of a protection long as the letters `hsparwed`.
use Rattle.std.specs.Prelude.{◌≡◌, ℕ, ◌+◌, ◌%◌, ◌==◌, ◌⊎◌, Bool, not, if◌then◌else◌, List, ◌∷◌, length, count_by, codes}
use Rattle.std.specs.List.{list_any}
use Rattle.ados_name.specs.Protection.{is_set, letter_or_dash, letters}

-- the eight letters: `h` if bit 7 is set, then the seven letters of the command `List`
abbrev pub protection_letters : ℕ → List ℕ
protection_letters bits = letter_or_dash (is_set bits 7) 104 ∷ letters bits

-- the text has this letter
abbrev pub has : List ℕ → ℕ → Bool
has text letter = list_any (λ c. c == letter) text

-- the value of a bit in the sum
abbrev pub bit : Bool → ℕ → ℕ
bit set value = if set then value else 0

-- the bits of a text: `h`, `s`, `p` and `a` set bits 7 to 4; `r`, `w`, `e` and `d` clear bits 3 to 0
abbrev pub protection_of : List ℕ → ℕ
protection_of text =
    bit (has text 104) 128 + bit (has text 115) 64 + bit (has text 112) 32 + bit (has text 97) 16
    + bit (not (has text 114)) 8 + bit (not (has text 119)) 4 + bit (not (has text 101)) 2 + bit (not (has text 100)) 1

-- letters of `hsparwed`, each at most once
abbrev pub IsLetterSet : List ℕ → Type 0
IsLetterSet text = count_by (has text) (codes "hsparwed") ≡ length text

-- such letters, or the eight places for the bits
abbrev pub AreLetters : List ℕ → Type 0
AreLetters text = IsLetterSet text ⊎ (text ≡ protection_letters (protection_of text))

-- Law: the letters of bits are read back as the low eight bits.
abbrev pub ProtectionComesBack : Type 0
ProtectionComesBack = (bits : ℕ) → AreLetters (protection_letters bits) × (protection_of (protection_letters bits) ≡ bits % 256)
