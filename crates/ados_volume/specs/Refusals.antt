-- What refuses that an object is removed or moved, in the order of packets.
use Rattle.std.specs.Prelude.{ℕ, Bool, not, ◌&&◌, ◌==◌, List, [], ◌∷◌, Option}
use Rattle.ados_name.specs.Name.{denies_delete}
use Rattle.ados_model.specs.Tree.{Tree, entries, root}
use Rattle.ados_model.specs.Change.{child_of}
use Rattle.ados_model.specs.declared.dos_error.DosError.{DosError}
use Rattle.ados_model.specs.declared.dos_error.DosError.TheVariants.{DeleteProtected, DirectoryNotEmpty, ObjectExists, ObjectInUse, ObjectWrongType}
use Rattle.ados_model.specs.Objects.{is_under, protection_of}
use Rattle.ados_model.specs.Refusals.{first_refusal, is_empty, is_some_and, refuse}

-- an object is removed, which may be held; with `force` a protected one too
abbrev pub remove_refusals : Tree → ℕ → Bool → Bool → List (Option DosError)
remove_refusals t key held force =
    refuse ObjectWrongType (key == root t)
    ∷ refuse ObjectInUse held
    ∷ refuse DirectoryNotEmpty (not (is_empty (entries t key)))
    ∷ refuse DeleteProtected (not force && denies_delete (protection_of t key))
    ∷ []

abbrev pub remove_refusal : Tree → ℕ → Bool → Bool → Option DosError
remove_refusal t key held force = first_refusal (remove_refusals t key held force)

-- an object, which may be held, moves into a directory under a name
abbrev pub move_refusals : Tree → ℕ → ℕ → List ℕ → Bool → List (Option DosError)
move_refusals t key dir name held =
    refuse ObjectWrongType (key == root t)
    ∷ refuse ObjectExists (is_some_and (λ other. not (other == key)) (child_of t dir name))
    ∷ refuse ObjectInUse held
    ∷ refuse ObjectInUse (is_under t key dir)
    ∷ []

abbrev pub move_refusal : Tree → ℕ → ℕ → List ℕ → Bool → Option DosError
move_refusal t key dir name held = first_refusal (move_refusals t key dir name held)
