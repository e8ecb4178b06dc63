-- The refusals of each packet. All rows have them in this order: the handler has died (`refusal`), an unknown action, a
-- lock or handle that is not held, the walk or the place, the name or the comment, the type, the two of EXAMINE_NEXT,
-- what exists, what is in use, what is not empty, the protection, the position, the free space, the memory (`Meaning`).
use Rattle.std.specs.Prelude.{ℕ, ◌+◌, Bool, true, false, not, ◌&&◌, ◌||◌, ◌==◌, nat_le, nat_lt, max, if◌then◌else◌}
use Rattle.std.specs.Prelude.{List, [], ◌∷◌, length, Option, None, Some, is_some, is_none, option_map}
use Rattle.std.specs.List.{list_any}
use Rattle.std.specs.Option.{option_map_or}
use Rattle.std.specs.Result.{result_err}
use Rattle.std.specs.FinMap as numbered
use Rattle.ados_name.specs.Name.{is_separator, denies_delete, denies_write, denies_read}
use Rattle.ados_model.specs.Tree.{Tree, root, entries, parent_of, size_of, free, needs_more}
use Rattle.ados_model.specs.Change.{is_file, entries_after}
use Rattle.ados_model.specs.Packet.{DosError, ActionNotKnown, CommentTooBig, DeleteProtected, DeviceNotMounted}
use Rattle.ados_model.specs.Packet.{DirectoryNotEmpty, DiskFull, InvalidComponentName, InvalidLock, NoMoreEntries}
use Rattle.ados_model.specs.Packet.{ObjectExists, ObjectInUse, ObjectNotFound, ObjectWrongType, ReadProtected}
use Rattle.ados_model.specs.Packet.{SeekError, WriteProtected}
use Rattle.ados_model.specs.Packet.{Packet, Die, LocateObject, RenameDisk, FreeLock, DeleteObject, RenameObject}
use Rattle.ados_model.specs.Packet.{CopyDir, SetProtect, CreateDir, ExamineObject, ExamineNext, DiskInfo, Info}
use Rattle.ados_model.specs.Packet.{SetComment, Parent, SetDate, SameLock, Read, Write, FindUpdate, FindInput}
use Rattle.ados_model.specs.Packet.{FindOutput, End, Seek, SetFileSize, Other}
use Rattle.ados_model.specs.Session.{Session, holds, is_held, is_held_exclusively, is_in_use, is_lock}
use Rattle.ados_model.specs.Session.{is_exclusive_lock, handle_key, handle_position}
use Rattle.ados_model.specs.Objects.{walk_error, place_error, lock_key, found, object, placed, spot_directory}
use Rattle.ados_model.specs.Objects.{standing, protection_of, is_under, is_exclusive_mode, handle_target}
use Rattle.ados_model.specs.Objects.{is_bad_target, target_number}

-- this error if the condition holds
abbrev pub refuse : DosError → Bool → Option DosError
refuse error condition = if condition then Some error else None

-- the first error of a list of refusals
abbrev pub first_refusal : List (Option DosError) → Option DosError
first_refusal [] = None
first_refusal (Some error ∷ more) = Some error
first_refusal (None ∷ more) = first_refusal more

-- there is a value, and it passes the test
abbrev pub is_some_and : {A : Type 0} → (A → Bool) → Option A → Bool
is_some_and test o = option_map_or test o false

-- the list has nothing
abbrev pub is_empty : List ℕ → Bool
is_empty [] = true
is_empty (x ∷ xs) = false

-- the text has 1 to 30 bytes without `/` and `:`
abbrev pub is_name : List ℕ → Bool
is_name text = not (length text == 0 || nat_lt 30 (length text) || list_any is_separator text)

-- the entry there is a directory
abbrev pub is_directory_there : Tree → Option ℕ → Bool
is_directory_there t there = is_some_and (λ key. not (is_file t key)) there

-- a file would have to be made, and no block is free
abbrev pub has_no_room : Tree → Option ℕ → Bool
has_no_room t there = is_none there && nat_lt (free t) 1

module _ (t : Tree) (s : Session) where
  -- no lock, or no handle, has this number
  abbrev unknown_lock : ℕ → Option DosError
  unknown_lock lock = refuse InvalidLock (not (is_lock s lock))

  abbrev unknown_handle : ℕ → Option DosError
  unknown_handle handle = refuse InvalidLock (not (numbered.contains_key s.handles handle))

  -- the refusal by the walk of a path from a lock
  abbrev walk_refusal : ℕ → List ℕ → Option DosError
  walk_refusal lock path = option_map walk_error (result_err (found t s lock path))

  -- the refusal by the place of a path from a lock
  abbrev place_refusal : ℕ → List ℕ → Option DosError
  place_refusal lock path = option_map place_error (result_err (placed t s lock path))

  -- one row for each packet
  abbrev pub refusals : Packet → List (Option DosError)
  refusals Die = refuse ObjectInUse (nat_lt 0 (length (holds s))) ∷ []
  refusals (LocateObject lock path mode) =
      let key = object t s lock path in
      unknown_lock lock ∷ walk_refusal lock path
      ∷ refuse ObjectInUse (is_in_use s key (is_exclusive_mode mode)) ∷ []
  refusals (RenameDisk name) = refuse InvalidComponentName (not (is_name name)) ∷ []
  refusals (FreeLock lock) = unknown_lock lock ∷ []
  refusals (DeleteObject lock path) =
      let key = object t s lock path in
      unknown_lock lock ∷ walk_refusal lock path
      ∷ refuse ObjectWrongType (key == root t)
      ∷ refuse ObjectInUse (is_held s key)
      ∷ refuse DirectoryNotEmpty (not (is_empty (entries t key)))
      ∷ refuse DeleteProtected (denies_delete (protection_of t key)) ∷ []
  refusals (RenameObject from_lock from to_lock to) =
      let key = object t s from_lock from in
      unknown_lock from_lock ∷ unknown_lock to_lock ∷ walk_refusal from_lock from ∷ place_refusal to_lock to
      ∷ refuse ObjectWrongType (key == root t)
      ∷ refuse ObjectExists (is_some_and (λ other. not (other == key)) (standing t s to_lock to))
      ∷ refuse ObjectInUse (is_held_exclusively s key)
      ∷ refuse ObjectInUse (is_under t key (spot_directory t s to_lock to)) ∷ []
  refusals (CopyDir lock) = unknown_lock lock ∷ refuse ObjectInUse (is_exclusive_lock s lock) ∷ []
  refusals (SetProtect lock path bits) =
      unknown_lock lock ∷ walk_refusal lock path ∷ refuse ObjectWrongType (object t s lock path == root t) ∷ []
  refusals (CreateDir lock path) =
      unknown_lock lock ∷ place_refusal lock path
      ∷ refuse ObjectExists (is_some (standing t s lock path))
      ∷ refuse DiskFull (nat_lt (free t) 1) ∷ []
  refusals (ExamineObject lock) = unknown_lock lock ∷ []
  refusals (ExamineNext lock key) =
      let dir = lock_key t s lock in
      let behind = entries_after t dir key in
      unknown_lock lock
      ∷ refuse ObjectWrongType (is_file t dir)
      ∷ refuse ObjectNotFound (is_none behind)
      ∷ refuse NoMoreEntries (is_some_and is_empty behind) ∷ []
  refusals DiskInfo = []
  refusals (Info lock) = unknown_lock lock ∷ []
  refusals (SetComment lock path comment) =
      unknown_lock lock ∷ walk_refusal lock path
      ∷ refuse CommentTooBig (not (nat_le (length comment) 79))
      ∷ refuse ObjectWrongType (object t s lock path == root t) ∷ []
  refusals (Parent lock) =
      unknown_lock lock ∷ refuse ObjectInUse
      (is_some_and (λ dir. is_held_exclusively s dir) (parent_of t (lock_key t s lock))) ∷ []
  refusals (SetDate lock path date) =
      unknown_lock lock ∷ walk_refusal lock path ∷ refuse ObjectWrongType (object t s lock path == root t) ∷ []
  refusals (SameLock first second) = unknown_lock first ∷ unknown_lock second ∷ []
  refusals (Read handle buffer) =
      unknown_handle handle ∷ refuse ReadProtected (denies_read (protection_of t (handle_key s handle))) ∷ []
  refusals (Write handle bytes) =
      let key = handle_key s handle in
      unknown_handle handle
      ∷ refuse WriteProtected (denies_write (protection_of t key))
      ∷ refuse DiskFull (needs_more t key (max (size_of t key) (handle_position s handle + length bytes))) ∷ []
  refusals (FindUpdate lock path) =
      let there = standing t s lock path in
      unknown_lock lock ∷ place_refusal lock path
      ∷ refuse ObjectWrongType (is_directory_there t there)
      ∷ refuse ObjectInUse (is_some_and (λ key. is_in_use s key false) there)
      ∷ refuse DiskFull (has_no_room t there) ∷ []
  refusals (FindInput lock path) =
      let key = object t s lock path in
      unknown_lock lock ∷ walk_refusal lock path
      ∷ refuse ObjectWrongType (not (is_file t key))
      ∷ refuse ObjectInUse (is_in_use s key false) ∷ []
  refusals (FindOutput lock path) =
      let there = standing t s lock path in
      unknown_lock lock ∷ place_refusal lock path
      ∷ refuse ObjectWrongType (is_directory_there t there)
      ∷ refuse ObjectInUse (is_some_and (λ key. is_in_use s key true) there)
      ∷ refuse DeleteProtected (is_some_and (λ key. denies_delete (protection_of t key)) there)
      ∷ refuse WriteProtected (is_some_and (λ key. denies_write (protection_of t key)) there)
      ∷ refuse DiskFull (has_no_room t there) ∷ []
  refusals (End handle) = unknown_handle handle ∷ []
  refusals (Seek handle offset mode) =
      unknown_handle handle ∷ refuse SeekError
      (is_bad_target (size_of t (handle_key s handle)) (handle_target t s handle offset mode)) ∷ []
  refusals (SetFileSize handle offset mode) =
      let key = handle_key s handle in
      let target = handle_target t s handle offset mode in
      unknown_handle handle
      ∷ refuse WriteProtected (denies_write (protection_of t key))
      ∷ refuse SeekError (is_bad_target 2147483647 target)
      ∷ refuse DiskFull (needs_more t key (target_number target)) ∷ []
  refusals (Other action) = Some ActionNotKnown ∷ []

  -- the refusal of a packet, if any; a dead handler refuses each packet
  abbrev pub refusal : Packet → Option DosError
  refusal packet = first_refusal (refuse DeviceNotMounted s.died ∷ refusals packet)
