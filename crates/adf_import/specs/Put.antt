-- One file or directory put into a directory.
use Rattle.std.specs.Prelude.{◌≡◌, ℕ, Bool, false, if◌then◌else◌, List, [], length, Option, None, Some, Ok}
use Rattle.std.specs.Option.{option_map_or}
use Rattle.ados_name.specs.declared.stamp.Date3.{Date3}
use Rattle.ados_model.specs.declared.dos_error.DosError.TheVariants.{ObjectExists, ObjectWrongType}
use Rattle.ados_model.specs.Tree.{Tree, free}
use Rattle.ados_model.specs.Tree.Content.{Directory}
use Rattle.ados_model.specs.Change.{made, child_of, is_file}
use Rattle.ados_model.specs.Keys.{HasDirectory, HasEntryKey}
use Rattle.ados_model.specs.Stands.{Stands}
use Rattle.adf_import.specs.declared.new_file.NewFile.{NewFile}
use Rattle.adf_import.specs.declared.new_file.NotPut.{NotPut}
use Rattle.adf_import.specs.declared.new_file.NotPut.TheVariants.{Refused}
use Rattle.adf_import.specs.Changes.{Changes, added, adding, describing, filled, filling}
use Rattle.adf_import.specs.InTurn.{GoesThrough}
use Rattle.adf_import.specs.Refusals.{add_refusal, or_no_room, replace_refusal}
use Rattle.adf_import.specs.declared.put.Entered.{Entered}
use Rattle.ados_volume.specs.Shown.{Shown}

-- the refusal of a file with this size under a name: with `force` it replaces an existing file, whose protection bits
-- can still refuse it
abbrev pub put_refusal : ℕ → List ℕ → ℕ → Bool → Tree → Option NotPut
put_refusal dir name size force t =
    option_map_or (λ key. if force then replace_refusal key size false t else Some (Refused ObjectExists)) (child_of t dir name) (add_refusal dir name size t)

-- the file exists: in place of the one with the name, or new under this key
abbrev pub put : Date3 → ℕ → List ℕ → NewFile → ℕ → Tree → Tree
put moment dir name file key t = option_map_or (λ there. filled moment there file t) (child_of t dir name) (added moment dir key name file t)

-- the changes of that: the existing file is filled, or a new one is added
abbrev pub putting : Date3 → ℕ → List ℕ → NewFile → ℕ → Tree → List (Tree → Tree)
putting stamp dir name file key t = option_map_or (λ there. filling stamp there file) (child_of t dir name) (adding stamp dir key name file)

-- the file is put into this tree: nothing refuses it, and the image goes through these changes
pub record PutsFile (stamp : Date3) (dir : ℕ) (name : List ℕ) (force : Bool) (file : NewFile) (key : ℕ) (t : Tree) (old new : List ℕ) : Type 0 where
  pub allowed : put_refusal dir name (length file.bytes.now) force t ≡ None
  pub stands : Stands new (put stamp dir name file key t)
  pub goes : GoesThrough (putting stamp dir name file key t) old new

-- some file is put into a directory under this name
abbrev pub PutsIn : Date3 → ℕ → List ℕ → Bool → List ℕ → List ℕ → Type 0
PutsIn stamp dir name force old new =
    (file : NewFile) × (key : ℕ) × ((t : Tree) → Stands old t → PutsFile stamp dir name force file key t old new)

-- a new directory needs a free block
abbrev pub new_refusal : Tree → Option NotPut
new_refusal t = or_no_room None 1 (free t)

-- the refusal of a directory under a name: a file with the name stays, with `force` too
abbrev pub enter_refusal : ℕ → List ℕ → Bool → Tree → Option NotPut
enter_refusal dir name force t =
    option_map_or (λ key. if is_file t key then Some (Refused (if force then ObjectWrongType else ObjectExists)) else None) (child_of t dir name) (new_refusal t)

-- the directory exists: unchanged, or new under this key
abbrev pub entered : Date3 → ℕ → List ℕ → ℕ → Tree → Tree
entered moment dir name key t = option_map_or (λ there. t) (child_of t dir name) (made moment dir key name (Directory []) t)

-- the child with this name: none if the directory is new, else that directory
abbrev pub child_before : Entered → Option ℕ
child_before e = if e.is_new then None else Some e.key

-- the directories and entries of the old image are directories and entries of the new one
pub record KeepsKeys (old new : List ℕ) : Type 0 where
  pub directory : (key : ℕ) → HasDirectory old key → HasDirectory new key
  pub entry : (key : ℕ) → HasEntryKey old key → HasEntryKey new key

-- files and directories are put in turn, each whole: a file is put, a directory is entered or made, and an entry is
-- described
pub data PutsInTurn (stamp : Date3) (force : Bool) : Shown → Shown → Type 0 where
  none : {volume : Shown} → PutsInTurn stamp force volume volume
  a_file : (dir : ℕ) (name : List ℕ) {old between new : Shown}
      → PutsInTurn stamp force old between → PutsIn stamp dir name force between.image new.image → PutsInTurn stamp force old new
  a_directory : (dir : ℕ) (name : List ℕ) (e : Entered) {old between new : Shown} → PutsInTurn stamp force old between
      → Changes (enter_refusal dir name force) (λ e t. entered stamp dir name e.key t) between new (Ok e) → PutsInTurn stamp force old new
  a_description : (key : ℕ) (file : NewFile) {old between new : Shown}
      → PutsInTurn stamp force old between → GoesThrough (describing stamp key file) between.image new.image → PutsInTurn stamp force old new
