-- What a boot block is.
use Rattle.std.specs.Prelude.{◌≡◌, ℕ, ◌*◌, ◌<◌, ◌≤◌, List, [], length, slice_index, take}
use Rattle.adf_block.specs.declared.layout.TheConstants.{BOOT_BLOCKS, BLOCK_BYTES}
use Rattle.adf_block.specs.declared.beside.TheConstants.{BOOT_CHECKSUM}
use Rattle.adf_block.specs.Image.{long}
use Rattle.adf_block.specs.Boot.{boot_sum}
use Rattle.adf_block.specs.declared.standard.TheConstants.{STANDARD_BOOT}
use Rattle.adf_block.specs.declared.code.BootCode.{BootCode}
use Rattle.adf_block.specs.declared.code.BootCode.TheVariants.{Empty, Wrong, Standard, Custom}

-- the bytes of the two boot blocks
abbrev pub boot_bytes : List ℕ → List ℕ
boot_bytes image = take (BOOT_BLOCKS * BLOCK_BYTES) image

-- from byte `first` on these are the bytes of this code, and then zeros
abbrev pub Follows : ℕ → List ℕ → List ℕ → Type 0
Follows first code bytes = (k : ℕ) → first ≤ k → k < length bytes → slice_index bytes k ≡ slice_index code k

-- only zeros follow the kind of the disk
abbrev pub IsEmpty : List ℕ → Type 0
IsEmpty image = Follows 4 [] (boot_bytes image)

-- the checksum is right, so the disk is bootable
abbrev pub IsRight : List ℕ → Type 0
IsRight image = long image 0 BOOT_CHECKSUM ≡ boot_sum image

-- the standard code follows the kind and the checksum
abbrev pub IsStandard : List ℕ → Type 0
IsStandard image = Follows 8 STANDARD_BOOT (boot_bytes image)

-- no boot block; one with a wrong checksum; the standard one; another one with the right checksum
abbrev pub IsBootCode : List ℕ → BootCode → Type 0
IsBootCode image Empty = IsEmpty image
IsBootCode image Wrong = ¬ IsEmpty image × ¬ IsRight image
IsBootCode image Standard = ¬ IsEmpty image × IsRight image × IsStandard image
IsBootCode image Custom = ¬ IsEmpty image × IsRight image × ¬ IsStandard image
