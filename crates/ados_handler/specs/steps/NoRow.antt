-- Two errors are in no packet's row of refusals: that of a dead handler, and that of a lack of memory.
use Rattle.std.proofs.Common.{◌≡◌, ℕ, Bool, true, false, List, [], ◌∷◌, Some, None, Ok, Err, refl, sym, ap, ◌∙◌}
use Rattle.std.specs.Prelude.{Option, Result, option_map}
use Rattle.std.specs.Result.{result_err}
use Rattle.std.proofs.lemmas.Bool.{true≢false}
use Rattle.std.proofs.lemmas.Option.{none-some, same_Some}
use Rattle.ados_model.specs.Tree.{Tree}
use Rattle.ados_model.specs.declared.dos_error.WalkFault.{WalkFault}
use Rattle.ados_model.specs.declared.dos_error.WalkFault.TheVariants as walks
use Rattle.ados_model.specs.declared.dos_error.PlaceFault.{PlaceFault}
use Rattle.ados_model.specs.declared.dos_error.PlaceFault.TheVariants as faults
use Rattle.ados_model.specs.declared.dos_error.DosError.{DosError}
use Rattle.ados_model.specs.declared.dos_error.DosError.TheVariants.{ActionNotKnown, CommentTooBig, DeleteProtected, DeviceNotMounted, DirectoryNotEmpty, DirectoryNotFound, DiskFull, InvalidComponentName, InvalidLock, NoFreeStore, NoMoreEntries, ObjectExists, ObjectInUse, ObjectNotFound, ObjectWrongType, ReadProtected, SeekError, WriteProtected}
use Rattle.ados_model.specs.declared.packet.Packet.{Packet}
use Rattle.ados_model.specs.declared.packet.Packet.TheVariants.{Die, LocateObject, RenameDisk, FreeLock, DeleteObject, RenameObject, CopyDir, SetProtect, CreateDir, ExamineObject, ExamineNext, DiskInfo, Info, SetComment, Parent, SetDate, SameLock, Read, Write, FindUpdate, FindInput, FindOutput, End, Seek, SetFileSize, Other}
use Rattle.ados_model.specs.Session.{Session}
use Rattle.ados_model.specs.Objects.{walk_error, place_error, found, placed}
use Rattle.ados_model.specs.Refusals.{refuse, first_refusal, refusal, refusals}

-- the errors that are in no row: that of a dead handler, and that of a lack of memory
abbrev is_in_no_row : DosError → Bool
is_in_no_row DeviceNotMounted = true
is_in_no_row NoFreeStore = true
is_in_no_row _ = false

-- a check that never refuses with one of them
abbrev IsOther : Option DosError → Type 0
IsOther o = (rare : DosError) → is_in_no_row rare ≡ true → o ≡ Some rare → ⊥

AreOther : List (Option DosError) → Type 0
AreOther [] = Unit {0}
AreOther (o ∷ more) = IsOther o × AreOther more

apart : (error : DosError) → is_in_no_row error ≡ false → IsOther (Some error)
apart error other rare is e = true≢false (sym is ∙ ap is_in_no_row (sym (same_Some error rare e)) ∙ other)

other_error : (error : DosError) (b : Bool) → is_in_no_row error ≡ false → IsOther (refuse error b)
other_error error true other rare is e = apart error other rare is e
other_error error false other rare is e = none-some rare e

first_other : (list : List (Option DosError)) → AreOther list → IsOther (first_refusal list)
unfolding AreOther
first_other [] h rare is e = none-some rare e
first_other (None ∷ more) h rare is e = first_other more h.1 rare is e
first_other (Some c ∷ more) h rare is e = h.0 rare is e

walk_other : {A : Type 0} (r : Result A WalkFault) → IsOther (option_map walk_error (result_err r))
walk_other (Ok x) rare is e = none-some rare e
walk_other (Err walks.DirectoryNotFound) rare is e = apart DirectoryNotFound refl rare is e
walk_other (Err walks.ObjectNotFound) rare is e = apart ObjectNotFound refl rare is e
walk_other (Err walks.WrongType) rare is e = apart ObjectWrongType refl rare is e

place_other : {A : Type 0} (r : Result A PlaceFault) → IsOther (option_map place_error (result_err r))
place_other (Ok x) rare is e = none-some rare e
place_other (Err faults.DirectoryNotFound) rare is e = apart DirectoryNotFound refl rare is e
place_other (Err faults.ObjectNotFound) rare is e = apart ObjectNotFound refl rare is e
place_other (Err faults.WrongType) rare is e = apart ObjectWrongType refl rare is e
place_other (Err faults.InvalidName) rare is e = apart InvalidComponentName refl rare is e

module _ (t : Tree) (s : Session) where
  walked : (lock : ℕ) (path : List ℕ) → IsOther (option_map walk_error (result_err (found t s lock path)))
  walked lock path = walk_other (found t s lock path)

  put_at : (lock : ℕ) (path : List ℕ) → IsOther (option_map place_error (result_err (placed t s lock path)))
  put_at lock path = place_other (placed t s lock path)

  no : (error : DosError) (b : Bool) → is_in_no_row error ≡ false → IsOther (refuse error b)
  no error b apart = other_error error b apart

  -- the last checks of DELETE_OBJECT, RENAME_OBJECT and FIND_OUTPUT
  undeletable : (type held full protected : Bool)
      → AreOther (refuse ObjectWrongType type ∷ refuse ObjectInUse held ∷ refuse DirectoryNotEmpty full ∷ refuse DeleteProtected protected ∷ [])
  unfolding AreOther
  undeletable type held full protected =
      (no ObjectWrongType type refl, (no ObjectInUse held refl, (no DirectoryNotEmpty full refl, (no DeleteProtected protected refl, tt))))

  unmovable : (type there held under : Bool)
      → AreOther (refuse ObjectWrongType type ∷ refuse ObjectExists there ∷ refuse ObjectInUse held ∷ refuse ObjectInUse under ∷ [])
  unfolding AreOther
  unmovable type there held under =
      (no ObjectWrongType type refl, (no ObjectExists there refl, (no ObjectInUse held refl, (no ObjectInUse under refl, tt))))

  unemptied : (delete write full : Bool) → AreOther (refuse DeleteProtected delete ∷ refuse WriteProtected write ∷ refuse DiskFull full ∷ [])
  unfolding AreOther
  unemptied delete write full = (no DeleteProtected delete refl, (no WriteProtected write refl, (no DiskFull full refl, tt)))

  -- no packet's row has one of them
  all_other : (packet : Packet) → AreOther (refusals t s packet)
  unfolding AreOther
  all_other Die = (no ObjectInUse _ refl, tt)
  all_other (LocateObject lock path mode) = (no InvalidLock _ refl, (walked lock path, (no ObjectInUse _ refl, tt)))
  all_other (RenameDisk name) = (no InvalidComponentName _ refl, tt)
  all_other (FreeLock lock) = (no InvalidLock _ refl, tt)
  all_other (DeleteObject lock path) = (no InvalidLock _ refl, (walked lock path, undeletable _ _ _ _))
  all_other (RenameObject from_lock from to_lock to) =
      (no InvalidLock _ refl, (no InvalidLock _ refl, (walked from_lock from, (put_at to_lock to, unmovable _ _ _ _))))
  all_other (CopyDir lock) = (no InvalidLock _ refl, (no ObjectInUse _ refl, tt))
  all_other (SetProtect lock path bits) = (no InvalidLock _ refl, (walked lock path, (no ObjectWrongType _ refl, tt)))
  all_other (CreateDir lock path) = (no InvalidLock _ refl, (put_at lock path, (no ObjectExists _ refl, (no DiskFull _ refl, tt))))
  all_other (ExamineObject lock) = (no InvalidLock _ refl, tt)
  all_other (ExamineNext lock key) = (no InvalidLock _ refl, (no ObjectWrongType _ refl, (no ObjectNotFound _ refl, (no NoMoreEntries _ refl, tt))))
  all_other DiskInfo = tt
  all_other (Info lock) = (no InvalidLock _ refl, tt)
  all_other (SetComment lock path comment) = (no InvalidLock _ refl, (walked lock path, (no CommentTooBig _ refl, (no ObjectWrongType _ refl, tt))))
  all_other (Parent lock) = (no InvalidLock _ refl, (no ObjectInUse _ refl, tt))
  all_other (SetDate lock path date) = (no InvalidLock _ refl, (walked lock path, (no ObjectWrongType _ refl, tt)))
  all_other (SameLock first second) = (no InvalidLock _ refl, (no InvalidLock _ refl, tt))
  all_other (Read handle buffer) = (no InvalidLock _ refl, (no ReadProtected _ refl, tt))
  all_other (Write handle bytes) = (no InvalidLock _ refl, (no WriteProtected _ refl, (no DiskFull _ refl, tt)))
  all_other (FindUpdate lock path) = (no InvalidLock _ refl, (put_at lock path, (no ObjectWrongType _ refl, (no ObjectInUse _ refl, (no DiskFull _ refl, tt)))))
  all_other (FindInput lock path) = (no InvalidLock _ refl, (walked lock path, (no ObjectWrongType _ refl, (no ObjectInUse _ refl, tt))))
  all_other (FindOutput lock path) = (no InvalidLock _ refl, (put_at lock path, (no ObjectWrongType _ refl, (no ObjectInUse _ refl, unemptied _ _ _))))
  all_other (End handle) = (no InvalidLock _ refl, tt)
  all_other (Seek handle offset mode) = (no InvalidLock _ refl, (no SeekError _ refl, tt))
  all_other (SetFileSize handle offset mode) = (no InvalidLock _ refl, (no WriteProtected _ refl, (no SeekError _ refl, (no DiskFull _ refl, tt))))
  all_other (Other action) = ((λ rare is e. other_error ActionNotKnown true refl rare is e), tt)

  -- so only a dead handler refuses with the first
  pub only_dead : (packet : Packet) → refusal t s packet ≡ Some DeviceNotMounted → s.died ≡ true
  only_dead packet e = go s.died e
    where
      go : (b : Bool) → first_refusal (refuse DeviceNotMounted b ∷ refusals t s packet) ≡ Some DeviceNotMounted → b ≡ true
      go true e = refl
      go false e = absurd (first_other (refusals t s packet) (all_other packet) DeviceNotMounted refl e)

  -- and no packet is refused with the other
  pub none_lacks : (packet : Packet) → refusal t s packet ≡ Some NoFreeStore → ⊥
  none_lacks packet e = go s.died e
    where
      go : (b : Bool) → first_refusal (refuse DeviceNotMounted b ∷ refusals t s packet) ≡ Some NoFreeStore → ⊥
      go true e = absurd (cc e)
      go false e = first_other (refusals t s packet) (all_other packet) NoFreeStore refl e
