-- The terms of packets: objects of locks and paths, and positions; the descriptions of an object and of a volume.
use Rattle.std.specs.Prelude.{ℕ, zero, suc, ◌+◌, ℤ, pos, negsuc, ◌+ℤ◌, nat_abs, int_le, Bool, true, false, not, ◌&&◌}
use Rattle.std.specs.Prelude.{◌==◌, if◌then◌else◌, List, [], ◌∷◌, length, Option, None, Some, option_map, Result, ◌-◌}
use Rattle.std.specs.List.{list_any}
use Rattle.std.specs.Option.{option_map_or}
use Rattle.std.specs.Result.{result_unwrap_or}
use Rattle.std.specs.FinMap as numbered
use Rattle.adf_block.specs.declared.layout.TheConstants.{BOOT_BLOCKS}
use Rattle.ados_model.specs.Tree.{Format, Node, Tree, root, free, parent_of, size_of, Content, cost_in, bytes_in}
use Rattle.ados_model.specs.Tree.{data_size, Content.Directory, Content.File}
use Rattle.ados_model.specs.Change.{WalkFault, PlaceFault, child_of, place, walk}
use Rattle.ados_model.specs.declared.dos_error.WalkFault.TheVariants as walks
use Rattle.ados_model.specs.declared.dos_error.PlaceFault.TheVariants as places
use Rattle.ados_model.specs.Packet.{NO_LOCK, DosError, DirectoryNotFound, InvalidComponentName, ObjectNotFound}
use Rattle.ados_model.specs.Packet.{ObjectWrongType}
use Rattle.ados_model.specs.Session.{Session, handle_key, handle_position}
use Rattle.ados_model.specs.Stands.{format_byte}
use Rattle.ados_model.specs.declared.answer.{FileInfo.FileInfo, DiskInfo.DiskInfo}

-- the errors of a walk, and of a place
abbrev pub walk_error : WalkFault → DosError
walk_error walks.DirectoryNotFound = DirectoryNotFound
walk_error walks.ObjectNotFound = ObjectNotFound
walk_error walks.WrongType = ObjectWrongType

abbrev pub place_error : PlaceFault → DosError
place_error places.DirectoryNotFound = DirectoryNotFound
place_error places.ObjectNotFound = ObjectNotFound
place_error places.WrongType = ObjectWrongType
place_error places.InvalidName = InvalidComponentName

-- the object of a lock; `NO_LOCK` means the root
abbrev pub lock_key : Tree → Session → ℕ → ℕ
lock_key t s lock = if lock == NO_LOCK then root t else option_map_or (λ l. l.key) (numbered.get s.locks lock) 0

-- the result of a walk along a path from a lock, and the object at its end
abbrev pub found : Tree → Session → ℕ → List ℕ → Result ℕ WalkFault
found t s lock path = walk t (lock_key t s lock) path

abbrev pub object : Tree → Session → ℕ → List ℕ → ℕ
object t s lock path = result_unwrap_or (found t s lock path) 0

-- the place that a path from a lock names, with its directory and its name
abbrev pub placed : Tree → Session → ℕ → List ℕ → Result (ℕ × List ℕ) PlaceFault
placed t s lock path = place t (lock_key t s lock) path

abbrev pub spot_directory : Tree → Session → ℕ → List ℕ → ℕ
spot_directory t s lock path = (result_unwrap_or (placed t s lock path) (0, [])).0

abbrev pub spot_name : Tree → Session → ℕ → List ℕ → List ℕ
spot_name t s lock path = (result_unwrap_or (placed t s lock path) (0, [])).1

-- the entry that has that name there already
abbrev pub standing : Tree → Session → ℕ → List ℕ → Option ℕ
standing t s lock path = child_of t (spot_directory t s lock path) (spot_name t s lock path)

-- the protection bits of a node
abbrev pub protection_of : Tree → ℕ → ℕ
protection_of t key = option_map_or (λ node. node.protection) (t.nodes key) 0

-- the key, and n directories above it
abbrev pub upward : Tree → ℕ → ℕ → List ℕ
upward t zero key = key ∷ []
upward t (suc n) key = key ∷ option_map_or (upward t n) (parent_of t key) []

-- the key is `above`, or is below it; the search covers as many directories as there are blocks
abbrev pub is_under : Tree → ℕ → ℕ → Bool
is_under t above key = list_any (λ k. k == above) (upward t t.blocks key)

-- mode -1 means an exclusive lock, any other mode a shared one
abbrev pub is_exclusive_mode : ℤ → Bool
is_exclusive_mode (negsuc zero) = true
is_exclusive_mode _ = false

-- the base of a position: mode -1 is the start, 0 the position, 1 the end
abbrev pub seek_base : ℕ → ℕ → ℤ → Option ℕ
seek_base position size (negsuc zero) = Some 0
seek_base position size (pos zero) = Some position
seek_base position size (pos (suc zero)) = Some size
seek_base position size _ = None

-- the target of a packet with a handle, if the mode is one of these
abbrev pub handle_target : Tree → Session → ℕ → ℤ → ℤ → Option ℤ
handle_target t s handle offset mode =
    option_map (λ base. pos base +ℤ offset)
    (seek_base (handle_position s handle) (size_of t (handle_key s handle)) mode)

-- there is no target, or it is not between 0 and the limit
abbrev pub is_bad_target : ℕ → Option ℤ → Bool
is_bad_target limit target = not (option_map_or (λ z. int_le (pos 0) z && int_le z (pos limit)) target false)

-- a target as a number
abbrev pub target_number : Option ℤ → ℕ
target_number target = option_map_or nat_abs target 0

-- 1 for the root, 2 for any other directory, -3 for a file
abbrev pub entry_type : Option ℕ → Content → ℤ
entry_type None content = pos 1
entry_type (Some dir) (Directory keys) = pos 2
entry_type (Some dir) (File bytes) = negsuc 2

-- key, type, name, protection bits, size, blocks, date and comment
abbrev pub file_info : Format → ℕ → Node → FileInfo
file_info format key node = record {
  key = key;
  entry_type = entry_type node.parent node.content;
  name = node.name;
  protection = record { 0 = node.protection };
  size = length (bytes_in (Some node.content));
  blocks = cost_in format (Some node.content);
  date = node.date;
  comment = node.comment;
}

-- a valid volume: its blocks after the boot blocks, those in use, the data bytes of a block, and `DOS` with the kind
abbrev pub disk_info : Tree → DiskInfo
disk_info t = record {
  state = 82;
  blocks = t.blocks - BOOT_BLOCKS;
  used = t.blocks - BOOT_BLOCKS - free t;
  bytes_per_block = data_size t.format;
  disk_type = 0x444F5300 + format_byte t.format;
}
