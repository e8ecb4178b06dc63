-- The boot block of an image.
use Rattle.std.specs.Prelude.{◌≡◌, ℕ, ◌+◌, ◌*◌, ◌<◌, ◌≤◌, List, [], length, slice_index, Option, Some, None, Result, MatchResult}
use Rattle.adf_block.specs.declared.layout.TheConstants.{BOOT_BLOCKS, BLOCK_BYTES}
use Rattle.adf_block.specs.declared.beside.TheConstants.{BOOT_CHECKSUM}
use Rattle.adf_block.specs.Image.{byte_at, long}
use Rattle.adf_block.specs.Boot.{boot_sum}
use Rattle.adf_block.specs.Frame.{SameBut}
use Rattle.adf_block.specs.declared.boot_blocks.LongBoot.{LongBoot}

-- a byte of the boot blocks
abbrev pub InBoot : ℕ → ℕ → Type 0
InBoot b i = b < BOOT_BLOCKS

-- from byte `first` the boot blocks have these bytes, then zeros; the DOS type and everything after the boot
-- blocks is unchanged
pub record HoldsCode (first : ℕ) (code old new : List ℕ) : Type 0 where
  pub kind : long new 0 0 ≡ long old 0 0
  pub byte : (b i : ℕ) → b < BOOT_BLOCKS → i < BLOCK_BYTES → first ≤ BLOCK_BYTES * b + i → byte_at new b i ≡ slice_index code (BLOCK_BYTES * b + i)
  pub rest : SameBut InBoot old new

-- the code follows the kind and the checksum, which is right
abbrev pub HasBoot : List ℕ → List ℕ → List ℕ → Type 0
HasBoot code old new = HoldsCode 8 code old new × (long new 0 BOOT_CHECKSUM ≡ boot_sum new)

-- without code, zeros follow the kind; code that fits is installed; code that does not fit is refused, and the image
-- is unchanged
abbrev pub Boots : {A : Type 0} → Option (List ℕ) → List ℕ → List ℕ → Result A LongBoot → Type 0
Boots None old new result = MatchResult result (λ _. HoldsCode 4 [] old new) (λ _. ⊥)
Boots (Some code) old new result = MatchResult result (λ _. (length code ≤ 1024) × HasBoot code old new) (λ fault. (new ≡ old) × (1024 < length code) × (fault.length ≡ length code))

-- bytes that fit follow the kind, and then zeros; bytes that do not fit are refused, and the image is unchanged
abbrev pub Restores : {A : Type 0} → List ℕ → List ℕ → List ℕ → Result A LongBoot → Type 0
Restores bytes old new result = MatchResult result (λ _. (length bytes ≤ 1024) × HoldsCode 4 bytes old new) (λ fault. (new ≡ old) × (1024 < length bytes) × (fault.length ≡ length bytes))
