-- What objects, places and handles allow, apart from space and memory.
use Rattle.std.specs.Prelude.{ℕ, ℤ, Bool, true, false, not, ◌&&◌, ◌==◌, List, is_none, Result, Ok, Err}
use Rattle.std.specs.Option.{option_map_or}
use Rattle.std.specs.FinMap as numbered
use Rattle.ados_name.specs.Name.{denies_delete, denies_write}
use Rattle.ados_model.specs.Tree.{Tree, root, size_of}
use Rattle.ados_model.specs.Change.{child_of, is_file}
use Rattle.ados_model.specs.Session.{Session, is_in_use}
use Rattle.ados_model.specs.Objects.{is_bad_target, protection_of, target_number}
use Rattle.ados_model.specs.Reads.{seek_target}
use Rattle.ados_model.specs.Resolved.{placed_at, walked}
use Rattle.ados_handler.specs.steps.Moves.{move_refusal, remove_refusal, source_and_place}

-- there is a value, and it passes the test
abbrev pub ok_and : {A E : Type 0} → (A → Bool) → Result A E → Bool
ok_and test (Ok x) = test x
ok_and test (Err e) = false

-- the path leads to an object other than the root
abbrev pub leads_to_entry : Tree → Session → ℕ → List ℕ → Bool
leads_to_entry t s lock path = ok_and (λ key. not (key == root t)) (walked t s lock path)

-- the path leads to an object that can be deleted
abbrev pub removes : Tree → Session → ℕ → List ℕ → Bool
removes t s lock path = ok_and (λ key. is_none (remove_refusal t s key)) (walked t s lock path)

-- the object of one path can move to the place of the other
abbrev pub can_move : Tree → Session → ℕ → List ℕ → ℕ → List ℕ → Bool
can_move t s from_lock from to_lock to =
    ok_and (λ found. is_none (move_refusal t s found.0 found.1.0 found.1.1)) (source_and_place t s from_lock from to_lock to)

-- the path is a place without an entry
abbrev pub can_make : Tree → Session → ℕ → List ℕ → Bool
can_make t s lock path = ok_and (λ spot. is_none (child_of t spot.0 spot.1)) (placed_at t s lock path)

-- the object is a file that can be emptied, and the path is a place without an entry or with such a file
abbrev pub can_empty : Tree → Session → ℕ → Bool
can_empty t s key =
    is_file t key && not (is_in_use s key true) && not (denies_delete (protection_of t key)) && not (denies_write (protection_of t key))

abbrev pub can_output : Tree → Session → ℕ → List ℕ → Bool
can_output t s lock path = ok_and (λ spot. option_map_or (can_empty t s) (child_of t spot.0 spot.1) true) (placed_at t s lock path)

-- the handle is on a file that can be written
abbrev pub can_write : Tree → Session → ℕ → Bool
can_write t s handle = option_map_or (λ h. not (denies_write (protection_of t h.key))) (numbered.get s.handles handle) false

-- and the target is a size that the file does not have
abbrev pub can_resize : Tree → Session → ℕ → ℤ → ℤ → Bool
can_resize t s handle offset mode =
    option_map_or (λ h.
    let target = seek_target h.position (size_of t h.key) offset mode in
    not (denies_write (protection_of t h.key)) && not (is_bad_target 2147483647 target) && not (target_number target == size_of t h.key))
    (numbered.get s.handles handle) false
