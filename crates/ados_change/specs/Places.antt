-- The bytes of a block that an edit may change.
use Rattle.std.specs.Prelude.{ℕ, ◌+◌, ◌⊎◌, List}
use Rattle.adf_block.specs.declared.layout.TheConstants.{DISK_DATE}
use Rattle.adf_block.specs.declared.beside.TheConstants.{CHECKSUM}
use Rattle.adf_block.specs.Frame.{AtLong, SameBut, Within, long_byte}
use Rattle.ados_model.specs.Faults.{root_of}

-- bytes low to high - 1 of block b, and its checksum
abbrev pub Summed : ℕ → ℕ → ℕ → ℕ → ℕ → Type 0
Summed b low high c k = Within b low high c k ⊎ AtLong b CHECKSUM c k

-- these bytes of block b with its checksum, and the disk date with the root's checksum
abbrev pub Restamped : ℕ → ℕ → ℕ → ℕ → ℕ → ℕ → Type 0
Restamped root b low high c k = Summed b low high c k ⊎ Summed root (long_byte DISK_DATE) (long_byte (DISK_DATE + 3)) c k

-- no other byte than these changed
abbrev pub OnlyRestamped : ℕ → ℕ → ℕ → List ℕ → List ℕ → Type 0
OnlyRestamped b low high old new = SameBut (Restamped (root_of old) b low high) old new
