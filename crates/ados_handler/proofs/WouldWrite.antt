-- The packets that would change the disk, by what objects, places and handles allow.
use Rattle.std.proofs.Common.{◌≡◌, ◌≢◌, ℕ, ◌+◌, ℤ, Bool, true, false, cond, not, nat_lt, List, [], ◌∷◌, length, max, Option, Some, None, Result, Ok, Err, option_map, refl, sym, ap, ◌∙◌, arith, lt-ltb}
use Rattle.std.specs.Prelude.{◌&&◌, ◌==◌}
use Rattle.std.specs.FinMap.{get}
use Rattle.ados_handler.proofs.Common.{eq-eqb, true≢false, and_right, is_none, is_some, option_map_or, result_err, result_unwrap_or, denies_delete, denies_write, Tree, free, needs_more, root, size_of, child_of, is_file, WalkFault, PlaceFault, DosError, DeleteProtected, DeviceNotMounted, DirectoryNotEmpty, DiskFull, InvalidLock, ObjectExists, ObjectInUse, ObjectWrongType, SeekError, WriteProtected, Packet, DeleteObject, RenameObject, CreateDir, Write, FindUpdate, FindOutput, SetFileSize, HandleHold, Session, is_held, is_held_exclusively, is_in_use, is_lock, handle_key, handle_position, handle_target, is_bad_target, is_under, place_error, placed, protection_of, target_number, walk_error, found, seek_target, place_result, walk_result, first_refusal, has_no_room, is_directory_there, is_empty, is_some_and, refusals, refuse, sets_disk_date, both, move_refusal, move_refusals, remove_refusals}
use Rattle.ados_model.specs.Tree.{entries}
use Rattle.ados_model.specs.declared.dos_error.WalkFault.TheVariants as walks
use Rattle.ados_model.specs.declared.dos_error.PlaceFault.TheVariants as places
use Rattle.ados_handler.specs.Writes.{lacks_space_at_most, would_write}
use Rattle.ados_handler.specs.steps.Allowed.{can_empty, can_make, can_move, can_output, can_resize, can_write, ok_and, removes}

-- the list has no refusal but that of a full disk
abbrev passes : List (Option DosError) → Bool
passes rows = lacks_space_at_most (first_refusal rows)

walk_bars : (fault : WalkFault) (rest : List (Option DosError)) → false ≡ passes (Some (walk_error fault) ∷ rest)
walk_bars walks.DirectoryNotFound rest = refl
walk_bars fault rest = refl

place_bars : (fault : PlaceFault) (rest : List (Option DosError)) → false ≡ passes (Some (place_error fault) ∷ rest)
place_bars places.DirectoryNotFound rest = refl
place_bars fault rest = refl

-- rows of refusals by their conditions
remove_row : (r h e d : Bool) → is_none (first_refusal (refuse ObjectWrongType r ∷ refuse ObjectInUse h ∷ refuse DirectoryNotEmpty (not e) ∷ refuse DeleteProtected d ∷ [])) ≡ passes (refuse ObjectWrongType r ∷ refuse ObjectInUse h ∷ refuse DirectoryNotEmpty (not e) ∷ refuse DeleteProtected d ∷ [])
remove_row false false true true = refl
remove_row r h e d = refl

move_row : (r o h u : Bool) → is_none (first_refusal (refuse ObjectWrongType r ∷ refuse ObjectExists o ∷ refuse ObjectInUse h ∷ refuse ObjectInUse u ∷ []))
    ≡ passes (refuse ObjectWrongType r ∷ refuse ObjectExists o ∷ refuse ObjectInUse h ∷ refuse ObjectInUse u ∷ [])
move_row false false false true = refl
move_row r o h u = refl

empty_row : (f h d w : Bool) → f && not h && not d && not w ≡ passes (refuse ObjectWrongType (not f) ∷ refuse ObjectInUse h ∷ refuse DeleteProtected d ∷ refuse WriteProtected w ∷ refuse DiskFull false ∷ [])
empty_row true false false true = refl
empty_row f h d w = refl

full_row : (m : Bool) → true ≡ passes (refuse DiskFull m ∷ [])
full_row true = refl
full_row false = refl

write_row : (w m : Bool) → not w ≡ passes (refuse WriteProtected w ∷ refuse DiskFull m ∷ [])
write_row true m = refl
write_row false m = full_row m

size_row : (w b e m : Bool) → not w && not b && not e ≡ not e && passes (refuse WriteProtected w ∷ refuse SeekError b ∷ refuse DiskFull m ∷ [])
size_row false false false m = full_row m
size_row true b true m = refl
size_row false true true m = refl
size_row w b e m = refl

module _ (t : Tree) (s : Session) where
  -- a living handler refuses a packet by the packet's row
  living : (packet : Packet) → s.died ≡ false → sets_disk_date t s packet && passes (refusals t s packet) ≡ would_write t s packet
  living packet alive = sym (ap (λ (d : Bool). sets_disk_date t s packet && passes (refuse DeviceNotMounted d ∷ refusals t s packet)) alive)

  -- a packet with a path to an object
  walk_row : (lock : ℕ) (path : List ℕ) (test : ℕ → Bool) (rest : ℕ → List (Option DosError)) → ((key : ℕ) → test key ≡ passes (rest key)) → (b : Bool) (r : Result ℕ WalkFault)
      → ok_and test (cond b (walk_result r) (Err InvalidLock)) ≡ passes (refuse InvalidLock (not b) ∷ option_map walk_error (result_err r) ∷ rest (result_unwrap_or r 0))
  walk_row lock path test rest same true (Ok key) = same key
  walk_row lock path test rest same true (Err fault) = walk_bars fault (rest 0)
  walk_row lock path test rest same false r = refl

  -- a packet with a path to a place
  place_row : (test : ℕ × List ℕ → Bool) (rest : ℕ × List ℕ → List (Option DosError)) → ((spot : ℕ × List ℕ) → test spot ≡ passes (rest spot)) → (b : Bool) (r : Result (ℕ × List ℕ) PlaceFault)
      → ok_and test (cond b (place_result r) (Err InvalidLock)) ≡ passes (refuse InvalidLock (not b) ∷ option_map place_error (result_err r) ∷ rest (result_unwrap_or r (0, [])))
  place_row test rest same true (Ok spot) = same spot
  place_row test rest same true (Err fault) = place_bars fault (rest (0, []))
  place_row test rest same false r = refl

  module _ (alive : s.died ≡ false) where
    pub deleted_by : (lock : ℕ) (path : List ℕ) → removes t s lock path ≡ would_write t s (DeleteObject lock path)
    deleted_by lock path =
        walk_row lock path _ (remove_refusals t s)
        (λ key. remove_row (key == root t) (is_held s key) (is_empty (entries t key)) (denies_delete (protection_of t key))) (is_lock s lock) (found t s lock path)
        ∙ living (DeleteObject lock path) alive

    pub moved_by : (from_lock : ℕ) (from : List ℕ) (to_lock : ℕ) (to : List ℕ) → can_move t s from_lock from to_lock to ≡ would_write t s (RenameObject from_lock from to_lock to)
    moved_by from_lock from to_lock to = go (is_lock s from_lock) (is_lock s to_lock) (found t s from_lock from) (placed t s to_lock to) ∙ living (RenameObject from_lock from to_lock to) alive
      where
        go : (b c : Bool) (r : Result ℕ WalkFault) (p : Result (ℕ × List ℕ) PlaceFault)
            → ok_and (λ spot. is_none (move_refusal t s spot.0 spot.1.0 spot.1.1)) (cond (b && c) (both (walk_result r) (place_result p)) (Err InvalidLock))
            ≡ passes (refuse InvalidLock (not b) ∷ refuse InvalidLock (not c) ∷ option_map walk_error (result_err r) ∷ option_map place_error (result_err p) ∷ move_refusals t s (result_unwrap_or r 0) (result_unwrap_or p (0, [])).0 (result_unwrap_or p (0, [])).1)
        go true true (Err fault) p = walk_bars fault (option_map place_error (result_err p) ∷ move_refusals t s 0 (result_unwrap_or p (0, [])).0 (result_unwrap_or p (0, [])).1)
        go true true (Ok key) (Err fault) = place_bars fault (move_refusals t s key 0 [])
        go true true (Ok key) (Ok spot) =
            move_row (key == root t) (is_some_and (λ other. not (other == key)) (child_of t spot.0 spot.1)) (is_held_exclusively s key) (is_under t key spot.0)
        go b c r p = refl

    pub made_by : (lock : ℕ) (path : List ℕ) → can_make t s lock path ≡ would_write t s (CreateDir lock path)
    made_by lock path =
        place_row _ (λ spot. rows (child_of t spot.0 spot.1)) (λ spot. by_rows (child_of t spot.0 spot.1)) (is_lock s lock) (placed t s lock path)
        ∙ living (CreateDir lock path) alive
      where
        rows : Option ℕ → List (Option DosError)
        rows there = refuse ObjectExists (is_some there) ∷ refuse DiskFull (nat_lt (free t) 1) ∷ []

        by_rows : (there : Option ℕ) → is_none there ≡ passes (rows there)
        by_rows None = full_row (nat_lt (free t) 1)
        by_rows (Some key) = refl

    pub updated_by : (lock : ℕ) (path : List ℕ) → can_make t s lock path ≡ would_write t s (FindUpdate lock path)
    updated_by lock path = go (is_lock s lock) (placed t s lock path) ∙ living (FindUpdate lock path) alive
      where
        rows : Option ℕ → List (Option DosError)
        rows there = refuse ObjectWrongType (is_directory_there t there) ∷ refuse ObjectInUse (is_some_and (λ key. is_in_use s key false) there) ∷ refuse DiskFull (has_no_room t there) ∷ []

        at : (there : Option ℕ) → is_none there ≡ is_none there && passes (rows there)
        at None = full_row (nat_lt (free t) 1)
        at (Some key) = refl

        go : (b : Bool) (r : Result (ℕ × List ℕ) PlaceFault) → ok_and (λ spot. is_none (child_of t spot.0 spot.1)) (cond b (place_result r) (Err InvalidLock))
            ≡ is_none (child_of t (result_unwrap_or r (0, [])).0 (result_unwrap_or r (0, [])).1)
            && passes (refuse InvalidLock (not b) ∷ option_map place_error (result_err r) ∷ rows (child_of t (result_unwrap_or r (0, [])).0 (result_unwrap_or r (0, [])).1))
        go true (Ok spot) = at (child_of t spot.0 spot.1)
        go true (Err fault) = sym (ap (λ (b : Bool). is_none (child_of t 0 []) && b) (sym (place_bars fault (rows (child_of t 0 [])))) ∙ and_right (is_none (child_of t 0 [])) false refl)
        go false r = sym (and_right (is_none (child_of t (result_unwrap_or r (0, [])).0 (result_unwrap_or r (0, [])).1)) false refl)

    pub output_by : (lock : ℕ) (path : List ℕ) → can_output t s lock path ≡ would_write t s (FindOutput lock path)
    output_by lock path =
        place_row _ (λ spot. rows (child_of t spot.0 spot.1)) (λ spot. by_rows (child_of t spot.0 spot.1)) (is_lock s lock) (placed t s lock path)
        ∙ living (FindOutput lock path) alive
      where
        rows : Option ℕ → List (Option DosError)
        rows there =
            refuse ObjectWrongType (is_directory_there t there) ∷ refuse ObjectInUse (is_some_and (λ key. is_in_use s key true) there) ∷ refuse DeleteProtected (is_some_and (λ key. denies_delete (protection_of t key)) there)
            ∷ refuse WriteProtected (is_some_and (λ key. denies_write (protection_of t key)) there) ∷ refuse DiskFull (has_no_room t there) ∷ []

        by_rows : (there : Option ℕ) → option_map_or (can_empty t s) there true ≡ passes (rows there)
        by_rows None = full_row (nat_lt (free t) 1)
        by_rows (Some key) = empty_row (is_file t key) (is_in_use s key true) (denies_delete (protection_of t key)) (denies_write (protection_of t key))

    pub written_by : (handle : ℕ) (bytes : List ℕ) → nat_lt 0 (length bytes) && can_write t s handle ≡ would_write t s (Write handle bytes)
    written_by handle bytes =
        ap (λ (b : Bool). nat_lt 0 (length bytes) && b) (go (get s.handles handle) (needs_more t (handle_key s handle) (max (size_of t (handle_key s handle)) (handle_position s handle + length bytes))))
        ∙ living (Write handle bytes) alive
      where
        go : (o : Option HandleHold) (m : Bool) → option_map_or (λ h. not (denies_write (protection_of t h.key))) o false
            ≡ passes (refuse InvalidLock (not (is_some o)) ∷ refuse WriteProtected (denies_write (protection_of t (option_map_or (λ h. h.key) o 0))) ∷ refuse DiskFull m ∷ [])
        go None m = refl
        go (Some h) m = write_row (denies_write (protection_of t h.key)) m

    pub sized_by : (handle : ℕ) (offset mode : ℤ) → can_resize t s handle offset mode ≡ would_write t s (SetFileSize handle offset mode)
    sized_by handle offset mode = go (get s.handles handle) (needs_more t (handle_key s handle) (target_number (handle_target t s handle offset mode))) ∙ living (SetFileSize handle offset mode) alive
      where
        file : Option HandleHold → ℕ
        file o = option_map_or (λ h. h.key) o 0

        target : Option HandleHold → Option ℤ
        target o = seek_target (option_map_or (λ h. h.position) o 0) (size_of t (file o)) offset mode

        go : (o : Option HandleHold) (m : Bool)
            → option_map_or (λ h. not (denies_write (protection_of t h.key)) && not (is_bad_target 2147483647 (seek_target h.position (size_of t h.key) offset mode)) && not (target_number (seek_target h.position (size_of t h.key) offset mode) == size_of t h.key)) o false
            ≡ not (target_number (target o) == size_of t (file o))
            && passes (refuse InvalidLock (not (is_some o)) ∷ refuse WriteProtected (denies_write (protection_of t (file o))) ∷ refuse SeekError (is_bad_target 2147483647 (target o)) ∷ refuse DiskFull m ∷ [])
        go None m = sym (and_right (not (target_number (target None) == size_of t (file None))) false refl)
        go (Some h) m =
            let to = seek_target h.position (size_of t h.key) offset mode in
            size_row (denies_write (protection_of t h.key)) (is_bad_target 2147483647 to) (target_number to == size_of t h.key) m

-- bytes that are not empty are some
pub some_bytes : (bytes : List ℕ) → (length bytes == 0) ≡ false → nat_lt 0 (length bytes) ≡ true
some_bytes bytes some =
    let nonzero : length bytes ≢ 0 = λ e. true≢false (sym (eq-eqb (length bytes) 0 e) ∙ some) in
    lt-ltb 0 (length bytes) (omega (arith, nonzero))
