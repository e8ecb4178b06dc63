-- Where the time stamp of a change is written.
use Rattle.std.specs.Prelude.{◌≡◌, ℕ, ◌+◌, ◌/◌, ◌≤◌, ◌⊎◌}
use Rattle.adf_block.specs.declared.layout.TheConstants.{DISK_DATE, PROTECTION, DATE}
use Rattle.adf_block.specs.declared.beside.TheConstants.{CHECKSUM}
use Rattle.ados_name.specs.declared.stamp.Date3.{Date3}
use Rattle.ados_model.specs.Tree.{Tree}
use Rattle.ados_model.specs.Change.{changed, stamped}
use Rattle.ados_name.specs.Name.{without_archive}

-- the checksum, the protection and the date in a file header
abbrev pub IsFileStamp : ℕ → Type 0
IsFileStamp j = (j ≡ CHECKSUM) ⊎ ((j ≡ PROTECTION) ⊎ ((DATE ≤ j) × (j ≤ DATE + 2)))

-- the checksum and the disk date in the root
abbrev pub IsDiskStamp : ℕ → Type 0
IsDiskStamp j = (j ≡ CHECKSUM) ⊎ ((DISK_DATE ≤ j) × (j ≤ DISK_DATE + 2))

-- the bytes of these longs
abbrev pub AtStamps : ℕ → ℕ → ℕ → ℕ → Type 0
AtStamps root file c k = ((c ≡ file) × IsFileStamp (k / 4)) ⊎ ((c ≡ root) × IsDiskStamp (k / 4))

-- the file's date and the disk date are `moment`, and the file's archive bit is clear
abbrev pub touched : Date3 → ℕ → Tree → Tree
touched moment file t = stamped moment (changed file (λ node. record node { date = moment; protection = without_archive node.protection }) t)
