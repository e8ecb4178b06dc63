-- The packets that would change the disk.
use Rattle.std.specs.Prelude.{Bool, true, false, ◌&&◌, Option, None, Some}
use Rattle.ados_model.specs.Tree.{Tree}
use Rattle.ados_model.specs.declared.dos_error.DosError.{DosError}
use Rattle.ados_model.specs.declared.dos_error.DosError.TheVariants.{DiskFull}
use Rattle.ados_model.specs.declared.packet.Packet.{Packet}
use Rattle.ados_model.specs.Session.{Session}
use Rattle.ados_model.specs.Refusals.{refusal}
use Rattle.ados_model.specs.DiskDate.{sets_disk_date}

-- no refusal holds, or only that of a full disk, which comes after all others
abbrev pub lacks_space_at_most : Option DosError → Bool
lacks_space_at_most None = true
lacks_space_at_most (Some DiskFull) = true
lacks_space_at_most (Some _) = false

-- the packet, if served, sets the disk date, and nothing but a lack of space or memory can refuse it
abbrev pub would_write : Tree → Session → Packet → Bool
would_write t s packet = sets_disk_date t s packet && lacks_space_at_most (refusal t s packet)
