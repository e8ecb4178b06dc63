-- Which packets set the disk date.
use Rattle.std.specs.Prelude.{Bool, true, false, not, ◌==◌, nat_lt, length, is_none}
use Rattle.ados_model.specs.Tree.{Tree, size_of}
use Rattle.ados_model.specs.declared.packet.Packet.{Packet}
use Rattle.ados_model.specs.declared.packet.Packet.TheVariants.{RenameDisk, DeleteObject, RenameObject, SetProtect}
use Rattle.ados_model.specs.declared.packet.Packet.TheVariants.{CreateDir, SetComment, SetDate, Write, FindUpdate}
use Rattle.ados_model.specs.declared.packet.Packet.TheVariants.{FindOutput, SetFileSize}
use Rattle.ados_model.specs.Session.{Session, handle_key}
use Rattle.ados_model.specs.Objects.{standing, handle_target, target_number}

-- the packet, if served, sets the disk date
abbrev pub sets_disk_date : Tree → Session → Packet → Bool
sets_disk_date t s (RenameDisk name) = true
sets_disk_date t s (DeleteObject lock path) = true
sets_disk_date t s (RenameObject from_lock from to_lock to) = true
sets_disk_date t s (CreateDir lock path) = true
sets_disk_date t s (SetProtect lock path bits) = true
sets_disk_date t s (SetComment lock path comment) = true
sets_disk_date t s (SetDate lock path date) = true
sets_disk_date t s (FindOutput lock path) = true
sets_disk_date t s (FindUpdate lock path) = is_none (standing t s lock path)
sets_disk_date t s (Write handle bytes) = nat_lt 0 (length bytes)
sets_disk_date t s (SetFileSize handle offset mode) =
    not (target_number (handle_target t s handle offset mode) == size_of t (handle_key s handle))
sets_disk_date t s _ = false
