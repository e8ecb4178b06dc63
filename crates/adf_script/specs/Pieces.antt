-- Splits at a separating byte.
use Rattle.std.specs.Prelude.{◌≡◌, ℕ, ◌==◌, Bool, false, List, [], ◌∷◌, ◌++◌}
use Rattle.std.specs.List.{list_any}

abbrev pub has_byte : ℕ → List ℕ → Bool
has_byte separator bytes = list_any (λ byte. byte == separator) bytes

-- the bytes are a prefix without the separator, the separator, and the rest
abbrev pub IsSplit : ℕ → List ℕ → List ℕ → List ℕ → Type 0
IsSplit separator bytes front rest = (bytes ≡ front ++ separator ∷ rest) × (has_byte separator front ≡ false)

-- empty, or starting with a space
abbrev pub IsBehind : List ℕ → Type 0
IsBehind [] = Unit {0}
IsBehind (byte ∷ bytes) = byte ≡ 32

-- the bytes are a prefix without a space, and the rest from the first space
pub record IsCut (bytes front rest : List ℕ) : Type 0 where
  pub whole : bytes ≡ front ++ rest
  pub plain : has_byte 32 front ≡ false
  pub ended : IsBehind rest
