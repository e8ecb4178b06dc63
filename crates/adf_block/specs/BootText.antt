-- The text that shows a boot block.
use Rattle.std.specs.Prelude.{◌≡◌, ◌≢◌, ℕ, zero, suc, ◌+◌, ◌-◌, ◌*◌, ◌/◌, ◌%◌, ◌<◌, ◌≤◌, ◌&&◌, nat_lt, nat_le, if◌then◌else◌, List, [], ◌∷◌, ◌++◌, length, slice_index, take, drop, map, flat_map, codes}
use Rattle.adf_block.specs.BootCode.{IsBootCode, boot_bytes}
use Rattle.adf_block.specs.declared.code.BootCode.{BootCode}
use Rattle.adf_block.specs.declared.code.BootCode.TheVariants.{Empty, Wrong, Standard, Custom}

-- a lower-case hexadecimal digit
abbrev pub hex_digit : ℕ → ℕ
hex_digit n = if nat_lt n 10 then 48 + n else 87 + n

-- a byte as two digits; and after a space
abbrev pub hex_byte : ℕ → List ℕ
hex_byte byte = hex_digit (byte / 16) ∷ hex_digit (byte % 16) ∷ []

abbrev pub spaced_byte : ℕ → List ℕ
spaced_byte byte = 32 ∷ hex_byte byte

-- a printable byte of ASCII as it is, any other byte as a dot
abbrev pub letter : ℕ → ℕ
letter byte = if nat_le 32 byte && nat_lt byte 127 then byte else 46

-- the line for bytes at this offset: the offset as four digits, the bytes, and their letters between bars
abbrev pub hex_line : ℕ → List ℕ → List ℕ
hex_line at bytes =
    hex_byte (at / 256) ++ hex_byte (at % 256) ++ codes " " ++ flat_map spaced_byte bytes ++ codes "  |" ++ map letter bytes ++ codes "|\n"

-- the first n lines, of 16 bytes each
abbrev pub hex_lines : List ℕ → ℕ → List ℕ
hex_lines bytes zero = []
hex_lines bytes (suc n) = hex_lines bytes n ++ hex_line (16 * n) (take 16 (drop (16 * n) bytes))

-- the line that says what a boot block is
abbrev pub code_line : BootCode → List ℕ
code_line Empty = codes "boot block: none\n"
code_line Wrong = codes "boot block: custom, checksum wrong: not bootable\n"
code_line Standard = codes "boot block: standard\n"
code_line Custom = codes "boot block: custom, checksum right\n"

-- byte n - 1 is the last one that is not zero
abbrev pub EndsAt : List ℕ → ℕ → Type 0
EndsAt bytes n = (n ≤ length bytes) × ((k : ℕ) → n ≤ k → slice_index bytes k ≡ 0) × (0 < n → slice_index bytes (n - 1) ≢ 0)

-- the line for what the boot block is, and those of its bytes up to the last one that is not zero
abbrev pub IsBootText : List ℕ → List ℕ → Type 0
IsBootText image text =
    (code : BootCode) × (n : ℕ) × IsBootCode image code × EndsAt (boot_bytes image) n
    × (text ≡ code_line code ++ hex_lines (boot_bytes image) ((n + 15) / 16))
