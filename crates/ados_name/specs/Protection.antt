-- The letters of the protection bits.
use Rattle.std.specs.Prelude.{ℕ, Bool, ◌==◌, not, if◌then◌else◌, List, [], ◌∷◌}
use Rattle.std.specs.Int.{bit_at}

-- the bit of this number is set
abbrev pub is_set : ℕ → ℕ → Bool
is_set bits number = bit_at bits number == 1

-- bit 4: the file has not changed since it was archived
abbrev pub is_archived : ℕ → Bool
is_archived bits = is_set bits 4

-- the letter if it is shown, else a dash
abbrev pub letter_or_dash : Bool → ℕ → ℕ
letter_or_dash shown letter = if shown then letter else 45

-- the letters `sparwed`: script, pure and archived if set; read, write, execute and delete if not denied
abbrev pub letters : ℕ → List ℕ
letters bits =
    letter_or_dash (is_set bits 6) 115 ∷ letter_or_dash (is_set bits 5) 112 ∷ letter_or_dash (is_set bits 4) 97
    ∷ letter_or_dash (not (is_set bits 3)) 114 ∷ letter_or_dash (not (is_set bits 2)) 119
    ∷ letter_or_dash (not (is_set bits 1)) 101 ∷ letter_or_dash (not (is_set bits 0)) 100 ∷ []
