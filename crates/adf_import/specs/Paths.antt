-- Changes of the entry at a path from the root.
use Rattle.std.specs.Prelude.{◌≡◌, ℕ, not, ◌==◌, if◌then◌else◌, List, [], ◌∷◌, Option, Result, Ok, Err, MatchResult, option_map}
use Rattle.ados_name.specs.Name.{steps}
use Rattle.ados_model.specs.declared.dos_error.DosError.{DosError}
use Rattle.ados_model.specs.declared.dos_error.DosError.TheVariants.{CommentTooBig, InvalidComponentName, ObjectExists, ObjectWrongType}
use Rattle.ados_model.specs.Tree.{Tree, root}
use Rattle.ados_model.specs.Stands.{Stands}
use Rattle.ados_model.specs.Change.{is_file, place, walk_steps}
use Rattle.ados_model.specs.declared.dos_error.WalkFault.TheVariants.{ObjectNotFound}
use Rattle.ados_volume.specs.Shown.{Shown}
use Rattle.ados_model.specs.Resolved.{place_result, walk_result}
use Rattle.ados_model.specs.Refusals.{first_refusal, is_name, refuse}
use Rattle.ados_model.specs.Phrases.{is_comment}
use Rattle.adf_import.specs.Refusals.{move_refusal}
use Rattle.adf_import.specs.declared.paths.MoveFault.{MoveFault}
use Rattle.adf_import.specs.declared.paths.MoveFault.TheVariants.{Old, New}

-- the object at a path, or the error of the walk
abbrev pub object_at : List ℕ → Tree → Result ℕ DosError
object_at path t = walk_result (walk_steps t (root t) (steps path) ObjectNotFound)

-- an object as a directory, which a file is not
abbrev pub as_directory : Tree → Result ℕ DosError → Result ℕ DosError
as_directory t (Ok key) = if is_file t key then Err ObjectWrongType else Ok key
as_directory t (Err error) = Err error

-- the directory at a path, or the error of the walk
abbrev pub directory_at : List ℕ → Tree → Result ℕ DosError
directory_at path t = as_directory t (object_at path t)

-- the directory and the name of a place, or the error of that place
abbrev pub place_at : List ℕ → Tree → Result (ℕ × List ℕ) DosError
place_at path t = place_result (place t (root t) path)

-- if the tree has no such target, the result is its error and the volume is unchanged; otherwise the target is
-- changed, or this is refused
abbrev pub ChangesAt : {K A E : Type 0} → (Tree → Result K E) → (K → Shown → Shown → Result A E → Type 0) → Shown → Shown → Result A E → Type 0
ChangesAt target ChangesIt old new result =
    (t : Tree) → Stands old.image t → MatchResult (target t) (λ found. ChangesIt found old new result) (λ error. (new ≡ old) × (result ≡ Err error))

-- an object and the place for it; or the first error, with the old or the new path
abbrev pub both_ends : Result ℕ DosError → Result (ℕ × List ℕ) DosError → Result (ℕ × (ℕ × List ℕ)) MoveFault
both_ends (Err error) to = Err (Old error)
both_ends (Ok key) (Err error) = Err (New error)
both_ends (Ok key) (Ok to) = Ok (key, to)

abbrev pub move_ends : List ℕ → List ℕ → Tree → Result (ℕ × (ℕ × List ℕ)) MoveFault
move_ends old new t = both_ends (object_at old t) (place_at new t)

-- the path that the refusal of a move is about: the new one if another entry has the name
abbrev pub move_fault : DosError → MoveFault
move_fault ObjectExists = New ObjectExists
move_fault error = Old error

-- the refusal of a comment
abbrev pub comment_refusal : ℕ → List ℕ → Tree → Option DosError
comment_refusal key text t = first_refusal (refuse CommentTooBig (not (is_comment text)) ∷ refuse ObjectWrongType (key == root t) ∷ [])

-- the refusal of a volume's name
abbrev pub relabel_refusal : List ℕ → Tree → Option DosError
relabel_refusal name t = first_refusal (refuse InvalidComponentName (not (is_name name)) ∷ [])

-- the refusal of a move into a directory under a name, with the path that it is about
abbrev pub entry_move_refusal : ℕ × (ℕ × List ℕ) → Tree → Option MoveFault
entry_move_refusal m t = option_map move_fault (move_refusal m.0 m.1.0 m.1.1 t)
