-- What a packet's method does to the places for holds.
use Rattle.std.specs.Prelude.{◌≡◌, ◌≢◌, ℕ, pos, true}
use Rattle.ados_model.specs.declared.packet.TheConstants.{NO_LOCK}
use Rattle.ados_model.specs.declared.packet.Packet.{Packet}
use Rattle.ados_model.specs.declared.packet.Packet.TheVariants.{LocateObject, CopyDir, Parent, CreateDir, FindUpdate}
use Rattle.ados_model.specs.declared.packet.Packet.TheVariants.{FindInput, FindOutput, FreeLock, End}
use Rattle.ados_model.specs.declared.results.Results.{Results}
use Rattle.ados_handler.specs.HandlerState.{Places}

module _ (before after : Places) (results : Results) where
  -- a lock may take a place, if the packet is served
  pub record MayTakeLock : Type 0 where
    pub handle : after.for_handle ≡ before.for_handle
    pub stays : results.res2 ≢ pos 0 → before.for_lock ≡ true → after.for_lock ≡ true

  -- a handle may take a place, if the packet is served
  pub record MayTakeHandle : Type 0 where
    pub lock : after.for_lock ≡ before.for_lock
    pub stays : results.res2 ≢ pos 0 → before.for_handle ≡ true → after.for_handle ≡ true

  -- a freed lock leaves a place
  pub record FreesLock (lock : ℕ) : Type 0 where
    pub handle : after.for_handle ≡ before.for_handle
    pub stays : before.for_lock ≡ true → after.for_lock ≡ true
    pub freed : results.res2 ≡ pos 0 → lock ≢ NO_LOCK → after.for_lock ≡ true

  -- an ended handle leaves a place
  pub record FreesHandle : Type 0 where
    pub lock : after.for_lock ≡ before.for_lock
    pub stays : before.for_handle ≡ true → after.for_handle ≡ true
    pub freed : results.res2 ≡ pos 0 → after.for_handle ≡ true

  -- all packets: any other leaves the places as they are
  abbrev pub MethodRoom : Packet → Type 0
  MethodRoom (LocateObject lock path mode) = MayTakeLock
  MethodRoom (CopyDir lock) = MayTakeLock
  MethodRoom (Parent lock) = MayTakeLock
  MethodRoom (CreateDir lock path) = MayTakeLock
  MethodRoom (FindUpdate lock path) = MayTakeHandle
  MethodRoom (FindInput lock path) = MayTakeHandle
  MethodRoom (FindOutput lock path) = MayTakeHandle
  MethodRoom (FreeLock lock) = FreesLock lock
  MethodRoom (End handle) = FreesHandle
  MethodRoom _ = after ≡ before
