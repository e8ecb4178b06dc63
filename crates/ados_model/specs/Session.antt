-- The locks and handles in use.
use Rattle.std.specs.Prelude.{◌≡◌, ℕ, ◌≤◌, Bool, false, ◌==◌, ◌&&◌, ◌||◌, nat_lt, if◌then◌else◌, List, ◌++◌, map, None}
use Rattle.std.specs.List.{list_any}
use Rattle.std.specs.Option.{option_map_or}
use Rattle.std.specs.Ordering.{nat_cmp}
use Rattle.std.specs.FinMap as numbered
use Rattle.ados_model.specs.declared.packet.TheConstants.{NO_LOCK}
use Rattle.ados_model.specs.declared.holds.{LockHold.LockHold, HandleHold.HandleHold}

-- the locks by their numbers and the handles by theirs, and whether the handler has died
pub record Session : Type 0 where
  pub locks : numbered.FinMap nat_cmp LockHold
  pub handles : numbered.FinMap nat_cmp HandleHold
  pub died : Bool

-- no locks and no handles, and not dead
abbrev pub opening_session : Session
opening_session = record { locks = numbered.empty; handles = numbered.empty; died = false }

-- every hold: the key of its object, and whether it is exclusive
abbrev pub holds : Session → List (ℕ × Bool)
holds s =
    map (λ l. (l.key, l.exclusive)) (numbered.values s.locks)
    ++ map (λ h. (h.key, h.exclusive)) (numbered.values s.handles)

-- some hold is on the object, and some exclusive hold is
abbrev pub is_held : Session → ℕ → Bool
is_held s key = list_any (λ hold. hold.0 == key) (holds s)

abbrev pub is_held_exclusively : Session → ℕ → Bool
is_held_exclusively s key = list_any (λ hold. (hold.0 == key) && hold.1) (holds s)

-- a shared hold is possible if no exclusive one is on the object, an exclusive hold if there is none at all
abbrev pub is_in_use : Session → ℕ → Bool → Bool
is_in_use s key exclusive = if exclusive then is_held s key else is_held_exclusively s key

-- `NO_LOCK`, and the numbers of all locks
abbrev pub is_lock : Session → ℕ → Bool
is_lock s lock = (lock == NO_LOCK) || numbered.contains_key s.locks lock

-- the lock is exclusive; `NO_LOCK` is not
abbrev pub is_exclusive_lock : Session → ℕ → Bool
is_exclusive_lock s lock =
    if lock == NO_LOCK then false else option_map_or (λ l. l.exclusive) (numbered.get s.locks lock) false

-- the file of a handle, and its position
abbrev pub handle_key : Session → ℕ → ℕ
handle_key s handle = option_map_or (λ h. h.key) (numbered.get s.handles handle) 0

abbrev pub handle_position : Session → ℕ → ℕ
handle_position s handle = option_map_or (λ h. h.position) (numbered.get s.handles handle) 0

-- a number for a new lock or handle: between 1 and 2^31 - 1, and not in use
abbrev pub IsFreeNumber : {X : Type 0} → numbered.FinMap nat_cmp X → ℕ → Type 0
IsFreeNumber held number = (1 ≤ number) × (number ≤ 2147483647) × (numbered.get held number ≡ None)

-- one more lock, and one less
abbrev pub with_lock : ℕ → ℕ → Bool → Session → Session
with_lock number key exclusive s =
    record s { locks = numbered.insert s.locks number (record { key = key; exclusive = exclusive }) }

abbrev pub without_lock : ℕ → Session → Session
without_lock number s = record s { locks = numbered.remove s.locks number }

-- one more handle, at position 0, and one less
abbrev pub with_handle : ℕ → ℕ → Bool → Session → Session
with_handle number key exclusive s =
    record s { handles = numbered.insert s.handles number (record { key = key; position = 0; exclusive = exclusive }) }

abbrev pub without_handle : ℕ → Session → Session
without_handle number s = record s { handles = numbered.remove s.handles number }

-- a handle at another position
abbrev pub at_position : ℕ → ℕ → Session → Session
at_position handle position s =
    record s {
      handles = option_map_or (λ h. numbered.insert s.handles handle (record h { position = position }))
          (numbered.get s.handles handle) s.handles;
    }

-- each handle of the file past this size is moved to it
abbrev pub positions_within : ℕ → ℕ → Session → Session
positions_within key size s =
    let within : HandleHold → HandleHold =
    λ h. if (h.key == key) && nat_lt size h.position then record h { position = size } else h in
    record s { handles = numbered.from_entries (map (λ e. (e.0, within e.1)) (numbered.entries s.handles)) }
