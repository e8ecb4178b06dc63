-- What a change of an image leaves untouched.
use Rattle.std.specs.Prelude.{◌≡◌, ◌⊎◌, ℕ, ◌*◌, ◌/◌, ◌<◌, ◌≤◌, List, length}
use Rattle.adf_block.specs.Image.{byte_at}
use Rattle.adf_block.specs.declared.layout.TheConstants.{BLOCK_BYTES}

-- the new image is as long as the old one, and each byte outside the changed places is the same; a place is a block
-- and a byte of it
pub record SameBut (changed : ℕ → ℕ → Type 0) (old new : List ℕ) : Type 0 where
  pub same_length : length new ≡ length old
  pub same_byte : (b i : ℕ) → i < BLOCK_BYTES → ¬ changed b i → byte_at new b i ≡ byte_at old b i

-- the first byte of long i of a block
abbrev pub long_byte : ℕ → ℕ
long_byte i = 4 * i

-- the bytes of long i of block b
abbrev pub AtLong : ℕ → ℕ → ℕ → ℕ → Type 0
AtLong b i c k = (c ≡ b) × (k / 4 ≡ i)

-- the bytes of longs i and j of block b
abbrev pub AtTwoLongs : ℕ → ℕ → ℕ → ℕ → ℕ → Type 0
AtTwoLongs b i j c k = (c ≡ b) × ((k / 4 ≡ i) ⊎ (k / 4 ≡ j))

-- bytes low to high - 1 of block b
abbrev pub Within : ℕ → ℕ → ℕ → ℕ → ℕ → Type 0
Within b low high c k = (c ≡ b) × (low ≤ k) × (k < high)

-- the bytes of block b
abbrev pub InBlock : ℕ → ℕ → ℕ → Type 0
InBlock b c k = c ≡ b

-- nothing but long i of block b changed
abbrev pub OnlyLong : ℕ → ℕ → List ℕ → List ℕ → Type 0
OnlyLong b i old new = SameBut (AtLong b i) old new

-- nothing outside block b changed
abbrev pub OnlyBlock : ℕ → List ℕ → List ℕ → Type 0
OnlyBlock b old new = SameBut (InBlock b) old new
