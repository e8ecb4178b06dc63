-- The boot blocks: the DOS type of the disk, and the checksum of its boot code.
use Rattle.std.specs.Prelude.{◌≡◌, ◌≢◌, ℕ, ◌+◌, ◌-◌, ◌*◌, ◌/◌, ◌%◌, ◌^◌, ◌==◌, List, if◌then◌else◌}
use Rattle.adf_block.specs.Image.{byte_at, long, total}
use Rattle.adf_block.specs.declared.layout.TheConstants.{BOOT_BLOCKS, BLOCK_LONGS}
use Rattle.adf_block.specs.declared.beside.TheConstants.{KIND_BYTE, BOOT_CHECKSUM}
use Rattle.adf_block.specs.declared.boot.BootKind.{BootKind}
use Rattle.adf_block.specs.declared.boot.BootKind.TheVariants.{Ofs, Ffs, OtherDos, NotDos}

-- bytes 0 to 2 are "DOS"
abbrev pub IsDos : List ℕ → Type 0
IsDos image = (byte_at image 0 0 ≡ 68) × (byte_at image 0 1 ≡ 79) × (byte_at image 0 2 ≡ 83)

-- bytes 0 to 3 have this DOS type
abbrev pub HasKind : List ℕ → BootKind → Type 0
HasKind image Ofs = IsDos image × (byte_at image 0 KIND_BYTE ≡ 0)
HasKind image Ffs = IsDos image × (byte_at image 0 KIND_BYTE ≡ 1)
HasKind image (OtherDos k) = IsDos image × (byte_at image 0 KIND_BYTE ≡ k) × (k ≢ 0) × (k ≢ 1)
HasKind image NotDos = ¬ IsDos image

-- long k of the two boot blocks; the checksum's own long counts as 0
unfoldable pub boot_long : List ℕ → ℕ → ℕ
boot_long image k = if k == BOOT_CHECKSUM then 0 else long image (k / BLOCK_LONGS) (k % BLOCK_LONGS)

-- the end-around-carry sum of longs that add up to t: 0 for t = 0, else the number from 1 to 2^32 - 1 that equals t
-- modulo 2^32 - 1
abbrev pub carried_sum : ℕ → ℕ
carried_sum t = if t == 0 then 0 else (t - 1) % (2 ^ 32 - 1) + 1

-- the boot checksum: the complement of the end-around-carry sum of the 256 boot longs
unfoldable pub boot_sum : List ℕ → ℕ
boot_sum image = 2 ^ 32 - 1 - carried_sum (total (boot_long image) (BOOT_BLOCKS * BLOCK_LONGS))
