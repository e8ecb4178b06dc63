-- The refusals of a delete and of a move, after those of their locks and paths.
use Rattle.std.specs.Prelude.{ℕ, false, ◌&&◌, if◌then◌else◌, List, Option, Result, Ok, Err}
use Rattle.ados_model.specs.Tree.{Tree}
use Rattle.ados_model.specs.declared.dos_error.DosError.{DosError}
use Rattle.ados_model.specs.declared.dos_error.DosError.TheVariants.{InvalidLock}
use Rattle.ados_model.specs.Session.{Session, is_held, is_held_exclusively, is_lock}
use Rattle.ados_model.specs.Objects.{found, placed}
use Rattle.ados_model.specs.Resolved.{place_result, walk_result}
use Rattle.ados_model.specs.Refusals.{first_refusal}
use Rattle.ados_volume.specs.Refusals as volume

-- two values, or the first error
abbrev pub both : {A B E : Type 0} → Result A E → Result B E → Result (A × B) E
both (Ok a) (Ok b) = Ok (a, b)
both (Ok a) (Err e) = Err e
both (Err e) b = Err e

-- the object and the place of a move, or the error: of a lock that is not held, of the walk, or of the place
abbrev pub source_and_place : Tree → Session → ℕ → List ℕ → ℕ → List ℕ → Result (ℕ × (ℕ × List ℕ)) DosError
source_and_place t s from_lock from to_lock to =
    if is_lock s from_lock && is_lock s to_lock then both (walk_result (found t s from_lock from)) (place_result (placed t s to_lock to))
    else Err InvalidLock

-- the refusals of a move of an object into a directory under a name, and the first of them
abbrev pub move_refusals : Tree → Session → ℕ → ℕ → List ℕ → List (Option DosError)
move_refusals t s key dir name = volume.move_refusals t key dir name (is_held_exclusively s key)

abbrev pub move_refusal : Tree → Session → ℕ → ℕ → List ℕ → Option DosError
move_refusal t s key dir name = first_refusal (move_refusals t s key dir name)

-- the refusals of a delete, and the first of them
abbrev pub remove_refusals : Tree → Session → ℕ → List (Option DosError)
remove_refusals t s key = volume.remove_refusals t key (is_held s key) false

abbrev pub remove_refusal : Tree → Session → ℕ → Option DosError
remove_refusal t s key = first_refusal (remove_refusals t s key)
