-- The letters of bits are read back as these bits.
use Rattle.adf_text.proofs.Common.{◌≡◌, ℕ, zero, suc, ◌+◌, ◌*◌, ◌/◌, ◌%◌, ◌<◌, ◌==◌, Bool, true, false, List, [], ◌∷◌, ◌++◌, map, take, drop, refl, sym, ap, ◌∙◌, inr, arith, not, ◌&&◌, ◌||◌, nat_lt, list_any, bit_at, and_parts, not-true, ltb-true, encode_ascii, is_set, letter_or_dash, letters, protection_letters, bit, protection_of, AreLetters}
use Rattle.std.proofs.Math.Bool.{or-false}
use Rattle.std.proofs.lemmas.Nat.{mod-pow-add}
use Rattle.std.proofs.lemmas.Nat.Bits.{bit_at-lt}

-- what a place shows: its letter, or a dash
abbrev shown : Bool × ℕ → ℕ
shown place = letter_or_dash place.0 place.1

-- no place has this letter
abbrev lack : ℕ → List (Bool × ℕ) → Bool
lack c [] = true
lack c (place ∷ places) = not (place.1 == c) && lack c places

missed : (c : ℕ) (set : Bool) (letter : ℕ) → (45 == c) ≡ false → (letter == c) ≡ false → (letter_or_dash set letter == c) ≡ false
missed c true letter dash other = other
missed c false letter dash other = dash

hit : (c : ℕ) (set : Bool) → (45 == c) ≡ false → (c == c) ≡ true → (letter_or_dash set c == c) ≡ set
hit c true dash same = same
hit c false dash same = dash

none-shown : (c : ℕ) (places : List (Bool × ℕ)) → (45 == c) ≡ false → lack c places ≡ true → list_any (λ x. x == c) (map shown places) ≡ false
none-shown c [] dash lacks = refl
none-shown c (place ∷ places) dash lacks =
    let parts = and_parts (not (place.1 == c)) (lack c places) lacks in
    let head = missed c place.0 place.1 dash (not-true (place.1 == c) parts.0) in
    ap (λ b. b || list_any (λ x. x == c) (map shown places)) head ∙ none-shown c places dash parts.1

-- a letter with one place occurs if that place shows it
one-shown : (c : ℕ) (before after : List (Bool × ℕ)) (set : Bool) → (45 == c) ≡ false → (c == c) ≡ true → lack c before ≡ true → lack c after ≡ true
    → list_any (λ x. x == c) (map shown (before ++ (set, c) ∷ after)) ≡ set
one-shown c [] after set dash same front lacks =
    ap (λ b. (letter_or_dash set c == c) || b) (none-shown c after dash lacks) ∙ or-false (letter_or_dash set c == c) ∙ hit c set dash same
one-shown c (place ∷ before) after set dash same front lacks =
    let parts = and_parts (not (place.1 == c)) (lack c before) front in
    let head = missed c place.0 place.1 dash (not-true (place.1 == c) parts.0) in
    ap (λ b. b || list_any (λ x. x == c) (map shown (before ++ (set, c) ∷ after))) head ∙ one-shown c before after set dash same parts.1 lacks

twice : (b : Bool) → not (not b) ≡ b
twice true = refl
twice false = refl

bit-of : (b value : ℕ) → b < 2 → bit (b == 1) value ≡ value * b
bit-of zero value small = omega arith
bit-of (suc zero) value small = omega arith
bit-of (suc (suc b)) value small = absurd (omega arith)

-- a sum of eight bits, from the lowest
assemble : (n8 n7 n6 n5 n4 n3 n2 n1 n0 b7 b6 b5 b4 b3 b2 b1 b0 : ℕ) → n8 ≡ b7 * 128 + n7 → n7 ≡ b6 * 64 + n6 → n6 ≡ b5 * 32 + n5 → n5 ≡ b4 * 16 + n4
    → n4 ≡ b3 * 8 + n3 → n3 ≡ b2 * 4 + n2 → n2 ≡ b1 * 2 + n1 → n1 ≡ b0 * 1 + n0 → n0 ≡ 0
    → 128 * b7 + 64 * b6 + 32 * b5 + 16 * b4 + 8 * b3 + 4 * b2 + 2 * b1 + 1 * b0 ≡ n8
assemble n8 n7 n6 n5 n4 n3 n2 n1 n0 b7 b6 b5 b4 b3 b2 b1 b0 e8 e7 e6 e5 e4 e3 e2 e1 e0 = omega arith

module _ (bits : ℕ) where
  low-bits : 128 * bit_at bits 7 + 64 * bit_at bits 6 + 32 * bit_at bits 5 + 16 * bit_at bits 4 + 8 * bit_at bits 3 + 4 * bit_at bits 2 + 2 * bit_at bits 1 + 1 * bit_at bits 0 ≡ bits % 256
  low-bits =
      assemble (bits % 256) (bits % 128) (bits % 64) (bits % 32) (bits % 16) (bits % 8) (bits % 4) (bits % 2) (bits % 1)
      (bit_at bits 7) (bit_at bits 6) (bit_at bits 5) (bit_at bits 4) (bit_at bits 3) (bit_at bits 2) (bit_at bits 1) (bit_at bits 0)
      (mod-pow-add bits 1 7) (mod-pow-add bits 1 6) (mod-pow-add bits 1 5) (mod-pow-add bits 1 4)
      (mod-pow-add bits 1 3) (mod-pow-add bits 1 2) (mod-pow-add bits 1 1) (mod-pow-add bits 1 0) (omega arith)

  abbrev places : List (Bool × ℕ)
  places = (is_set bits 7, 104) ∷ (is_set bits 6, 115) ∷ (is_set bits 5, 112) ∷ (is_set bits 4, 97)
      ∷ (not (is_set bits 3), 114) ∷ (not (is_set bits 2), 119) ∷ (not (is_set bits 1), 101) ∷ (not (is_set bits 0), 100) ∷ []

  summed : bit (is_set bits 7) 128 + bit (is_set bits 6) 64 + bit (is_set bits 5) 32 + bit (is_set bits 4) 16 + bit (is_set bits 3) 8 + bit (is_set bits 2) 4 + bit (is_set bits 1) 2 + bit (is_set bits 0) 1
      ≡ 128 * bit_at bits 7 + 64 * bit_at bits 6 + 32 * bit_at bits 5 + 16 * bit_at bits 4 + 8 * bit_at bits 3 + 4 * bit_at bits 2 + 2 * bit_at bits 1 + 1 * bit_at bits 0
  summed = λ i. bit-of (bit_at bits 7) 128 (bit_at-lt bits 7) i + bit-of (bit_at bits 6) 64 (bit_at-lt bits 6) i
      + bit-of (bit_at bits 5) 32 (bit_at-lt bits 5) i + bit-of (bit_at bits 4) 16 (bit_at-lt bits 4) i
      + bit-of (bit_at bits 3) 8 (bit_at-lt bits 3) i + bit-of (bit_at bits 2) 4 (bit_at-lt bits 2) i
      + bit-of (bit_at bits 1) 2 (bit_at-lt bits 1) i + bit-of (bit_at bits 0) 1 (bit_at-lt bits 0) i

  pub protection_of-letters : protection_of (protection_letters bits) ≡ bits % 256
  protection_of-letters =
      let shows : protection_of (protection_letters bits) ≡ bit (is_set bits 7) 128 + bit (is_set bits 6) 64 + bit (is_set bits 5) 32 + bit (is_set bits 4) 16 + bit (is_set bits 3) 8 + bit (is_set bits 2) 4 + bit (is_set bits 1) 2 + bit (is_set bits 0) 1 =
      λ i. bit (one-shown 104 (take 0 places) (drop 1 places) (is_set bits 7) refl refl refl refl i) 128
      + bit (one-shown 115 (take 1 places) (drop 2 places) (is_set bits 6) refl refl refl refl i) 64
      + bit (one-shown 112 (take 2 places) (drop 3 places) (is_set bits 5) refl refl refl refl i) 32
      + bit (one-shown 97 (take 3 places) (drop 4 places) (is_set bits 4) refl refl refl refl i) 16
      + bit ((ap not (one-shown 114 (take 4 places) (drop 5 places) (not (is_set bits 3)) refl refl refl refl) ∙ twice (is_set bits 3)) i) 8
      + bit ((ap not (one-shown 119 (take 5 places) (drop 6 places) (not (is_set bits 2)) refl refl refl refl) ∙ twice (is_set bits 2)) i) 4
      + bit ((ap not (one-shown 101 (take 6 places) (drop 7 places) (not (is_set bits 1)) refl refl refl refl) ∙ twice (is_set bits 1)) i) 2
      + bit ((ap not (one-shown 100 (take 7 places) (drop 8 places) (not (is_set bits 0)) refl refl refl refl) ∙ twice (is_set bits 0)) i) 1 in
      shows ∙ summed ∙ low-bits

same_bits : (n : ℕ) → (n % 256 / 128 % 2 ≡ n / 128 % 2) × (n % 256 / 64 % 2 ≡ n / 64 % 2) × (n % 256 / 32 % 2 ≡ n / 32 % 2) × (n % 256 / 16 % 2 ≡ n / 16 % 2)
    × (n % 256 / 8 % 2 ≡ n / 8 % 2) × (n % 256 / 4 % 2 ≡ n / 4 % 2) × (n % 256 / 2 % 2 ≡ n / 2 % 2) × (n % 256 / 1 % 2 ≡ n / 1 % 2)
same_bits n = (omega arith, omega arith, omega arith, omega arith, omega arith, omega arith, omega arith, omega arith)

-- the letters show only the low eight bits
pub protection_letters-low : (n : ℕ) → protection_letters (n % 256) ≡ protection_letters n
protection_letters-low n = λ i. letter_or_dash ((same_bits n).0 i == 1) 104 ∷ letter_or_dash ((same_bits n).1 i == 1) 115 ∷ letter_or_dash ((same_bits n).2 i == 1) 112
    ∷ letter_or_dash ((same_bits n).3 i == 1) 97 ∷ letter_or_dash (not ((same_bits n).4 i == 1)) 114 ∷ letter_or_dash (not ((same_bits n).5 i == 1)) 119
    ∷ letter_or_dash (not ((same_bits n).6 i == 1)) 101 ∷ letter_or_dash (not ((same_bits n).7 i == 1)) 100 ∷ []

pub AreLetters-letters : (bits : ℕ) → AreLetters (protection_letters bits)
AreLetters-letters bits = inr (sym (ap protection_letters (protection_of-letters bits) ∙ protection_letters-low bits))

-- all these letters are ASCII
abbrev low : List (Bool × ℕ) → Bool
low [] = true
low (place ∷ places) = nat_lt place.1 128 && low places

shown-low : (set : Bool) (letter : ℕ) → nat_lt letter 128 ≡ true → letter_or_dash set letter < 128
shown-low true letter is = ltb-true letter 128 is
shown-low false letter is = omega arith

letters-shown : (places : List (Bool × ℕ)) → low places ≡ true → letters (map shown places) ≡ map shown places
letters-shown [] is = refl
letters-shown (place ∷ places) is =
    let parts = and_parts (nat_lt place.1 128) (low places) is in
    let first = encode_ascii (shown place) (shown-low place.0 place.1 parts.0) in
    let rest = letters-shown places parts.1 in
    λ i. first i ++ rest i

pub letters-protection_letters : (bits : ℕ) → letters (protection_letters bits) ≡ protection_letters bits
letters-protection_letters bits = letters-shown (places bits) refl
