-- Room for locks and handles: memory is said to be lacking only where there was no place for a hold, and places stay.
use Rattle.std.specs.Prelude.{◌≡◌, ◌≢◌, pos, Bool, true, false, ◌==◌, if◌then◌else◌, Option, None, Some}
use Rattle.std.specs.Option.{option_map_or}
use Rattle.ados_model.specs.Packet.{error_number}
use Rattle.ados_model.specs.declared.packet.TheConstants.{NO_LOCK}
use Rattle.ados_model.specs.declared.{packet.Packet.Packet, answer.Answer.Answer}
use Rattle.ados_model.specs.declared.dos_error.DosError.TheVariants.{NoFreeStore}
use Rattle.ados_model.specs.declared.packet.Packet.TheVariants.{LocateObject, CopyDir, Parent, CreateDir, FindUpdate}
use Rattle.ados_model.specs.declared.packet.Packet.TheVariants.{FindInput, FindOutput, FreeLock, End}
use Rattle.ados_handler.specs.HandlerState.{Places}

-- the kinds of holds
pub data HoldKind : Type 0 where
  OneLock : HoldKind
  OneHandle : HoldKind

-- the kind of the hold that a packet may make
abbrev pub kind_made : Packet → Option HoldKind
kind_made (LocateObject lock path mode) = Some OneLock
kind_made (CopyDir lock) = Some OneLock
kind_made (Parent lock) = Some OneLock
kind_made (CreateDir lock path) = Some OneLock
kind_made (FindUpdate lock path) = Some OneHandle
kind_made (FindInput lock path) = Some OneHandle
kind_made (FindOutput lock path) = Some OneHandle
kind_made _ = None

-- the kind of the hold that a packet frees if it is served
abbrev pub kind_freed : Packet → Option HoldKind
kind_freed (FreeLock lock) = if lock == NO_LOCK then None else Some OneLock
kind_freed (End handle) = Some OneHandle
kind_freed _ = None

-- there is a place for one more hold of this kind
abbrev pub has_place : Places → HoldKind → Bool
has_place places OneLock = places.for_lock
has_place places OneHandle = places.for_handle

-- there is a place for the hold that the packet may make
abbrev pub room_for : Places → Packet → Bool
room_for places packet = option_map_or (has_place places) (kind_made packet) true

-- the error `NoFreeStore` (103) comes only where there was no place for the packet's hold; a freed hold leaves a place;
-- and a place stays until a hold of its kind is made
pub record TellsRoom (before after : Places) (packet : Packet) (answer : Answer) : Type 0 where
  pub full : answer.res2 ≡ pos (error_number NoFreeStore) → room_for before packet ≡ false
  pub freed : answer.res2 ≡ pos 0 → (kind : HoldKind) → kind_freed packet ≡ Some kind → has_place after kind ≡ true
  pub stays : (kind : HoldKind) → (kind_made packet ≡ Some kind → answer.res2 ≢ pos 0) → has_place before kind ≡ true
      → has_place after kind ≡ true
