-- The refusals of each change, in order.
use Rattle.std.specs.Prelude.{ℕ, ◌+◌, ◌-◌, nat_lt, Bool, false, not, ◌&&◌, ◌==◌, if◌then◌else◌, List, [], ◌∷◌, Option, None, Some, is_some}
use Rattle.ados_model.specs.Tree.{block_cost, Tree, free, root, size_of}
use Rattle.ados_name.specs.Name.{denies_delete, denies_write}
use Rattle.ados_model.specs.declared.dos_error.DosError.{DosError}
use Rattle.ados_model.specs.declared.dos_error.DosError.TheVariants.{DeleteProtected, DiskFull, ObjectExists, ObjectWrongType, WriteProtected}
use Rattle.ados_model.specs.Change.{child_of, is_file}
use Rattle.ados_model.specs.Objects.{protection_of}
use Rattle.ados_model.specs.Reads.{lacks}
use Rattle.ados_model.specs.Refusals.{first_refusal, refuse}
use Rattle.ados_volume.specs.Refusals as volume
use Rattle.ados_volume.specs.Refusals.{remove_refusal}
use Rattle.adf_import.specs.declared.new_file.NotPut.{NotPut}
use Rattle.adf_import.specs.declared.new_file.NotPut.TheVariants.{NoRoom, Refused}

-- the root is no entry
abbrev pub root_refusal : ℕ → Tree → Option DosError
root_refusal key t = first_refusal (refuse ObjectWrongType (key == root t) ∷ [])

-- a directory with this name is made
abbrev pub make_refusal : ℕ → List ℕ → Tree → Option DosError
make_refusal dir name t = first_refusal (refuse ObjectExists (is_some (child_of t dir name)) ∷ refuse DiskFull (lacks t 1) ∷ [])

-- an entry is deleted; with `force` a protected one too
abbrev pub delete_refusal : ℕ → Bool → Tree → Option DosError
delete_refusal key force t = remove_refusal t key false force

-- an entry moves into a directory under a name
abbrev pub move_refusal : ℕ → ℕ → List ℕ → Tree → Option DosError
move_refusal key dir name t = volume.move_refusal t key dir name false

-- the error, if there is one; else too few free blocks, if so
abbrev pub or_no_room : Option DosError → ℕ → ℕ → Option NotPut
or_no_room (Some error) needed room = Some (Refused error)
or_no_room None needed room = if nat_lt room needed then Some (NoRoom needed room) else None

-- a new file with this many bytes is put into a directory: it needs one block, and those for its bytes
abbrev pub add_refusal : ℕ → List ℕ → ℕ → Tree → Option NotPut
add_refusal dir name size t =
    or_no_room (first_refusal (refuse ObjectExists (is_some (child_of t dir name)) ∷ [])) (1 + block_cost t.format size) (free t)

-- the additional blocks that a file needs for this size
abbrev pub more_blocks : Tree → ℕ → ℕ → ℕ
more_blocks t key size = block_cost t.format size - block_cost t.format (size_of t key)

-- a file gets this many bytes in place of its own; with `force` a protected one too
abbrev pub replace_refusal : ℕ → ℕ → Bool → Tree → Option NotPut
replace_refusal key size force t =
    or_no_room
    (first_refusal (
    refuse ObjectWrongType (not (is_file t key))
    ∷ refuse DeleteProtected (not force && denies_delete (protection_of t key))
    ∷ refuse WriteProtected (not force && denies_write (protection_of t key))
    ∷ []
    ))
    (more_blocks t key size)
    (free t)
