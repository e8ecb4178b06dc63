-- The object or the place of a path from a lock, or the error.
use Rattle.std.specs.Prelude.{ℕ, ◌==◌, if◌then◌else◌, List, Option, Some, option_map, Result, Ok, Err}
use Rattle.std.specs.FinMap as numbered
use Rattle.ados_model.specs.Tree.{Tree, root}
use Rattle.ados_model.specs.declared.dos_error.WalkFault.{WalkFault}
use Rattle.ados_model.specs.declared.dos_error.PlaceFault.{PlaceFault}
use Rattle.ados_model.specs.declared.dos_error.DosError.{DosError}
use Rattle.ados_model.specs.declared.dos_error.DosError.TheVariants.{InvalidLock}
use Rattle.ados_model.specs.declared.packet.TheConstants.{NO_LOCK}
use Rattle.ados_model.specs.Session.{Session, is_lock}
use Rattle.ados_model.specs.Objects.{walk_error, place_error, found, placed}

-- the object of a lock, or none if no lock has this number
abbrev pub lock_object : Tree → Session → ℕ → Option ℕ
lock_object t s lock = if lock == NO_LOCK then Some (root t) else option_map (λ l. l.key) (numbered.get s.locks lock)

-- the object at the end of a path, or the error: of a lock that is not held, or of the walk
abbrev pub walk_result : Result ℕ WalkFault → Result ℕ DosError
walk_result (Ok key) = Ok key
walk_result (Err fault) = Err (walk_error fault)

abbrev pub walked : Tree → Session → ℕ → List ℕ → Result ℕ DosError
walked t s lock path = if is_lock s lock then walk_result (found t s lock path) else Err InvalidLock

-- the place that a path from a lock names, or the error: of a lock that is not held, or of the place
abbrev pub place_result : Result (ℕ × List ℕ) PlaceFault → Result (ℕ × List ℕ) DosError
place_result (Ok found) = Ok found
place_result (Err fault) = Err (place_error fault)

abbrev pub placed_at : Tree → Session → ℕ → List ℕ → Result (ℕ × List ℕ) DosError
placed_at t s lock path = if is_lock s lock then place_result (placed t s lock path) else Err InvalidLock
