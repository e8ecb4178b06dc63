-- How files are opened: an existing one, one that is emptied, and a new one.
use Rattle.std.specs.Prelude.{◌≡◌, ◌⊎◌, ℕ, pos, Bool, true, false, not, List, [], ◌∷◌, Option, MatchOption}
use Rattle.std.specs.Ordering.{nat_cmp}
use Rattle.std.specs.FinMap as numbered
use Rattle.ados_name.specs.Name.{denies_delete, denies_write}
use Rattle.ados_name.specs.declared.stamp.Date3.{Date3}
use Rattle.ados_model.specs.Change.{rewritten, is_file}
use Rattle.ados_change.specs.NewBlocks.{KeepsRest}
use Rattle.ados_model.specs.Tree.{Tree}
use Rattle.ados_model.specs.Stands.{Stands}
use Rattle.ados_model.specs.declared.dos_error.DosError.{DosError}
use Rattle.ados_model.specs.declared.dos_error.DosError.TheVariants.{DeleteProtected, DiskFull, NoFreeStore, ObjectInUse, ObjectWrongType, WriteProtected}
use Rattle.ados_model.specs.Packet.{error_number, dos_true, dos_false}
use Rattle.ados_model.specs.declared.results.Results.{Results}
use Rattle.ados_model.specs.declared.answer.Body.TheVariants.{Empty, Handle}
use Rattle.ados_model.specs.declared.holds.HandleHold.{HandleHold}
use Rattle.ados_model.specs.Session.{Session, IsFreeNumber, is_in_use}
use Rattle.ados_handler.specs.HandlerState.{HandlerState}
use Rattle.ados_model.specs.Objects.{protection_of}
use Rattle.ados_model.specs.Reads.{lacks}
use Rattle.ados_model.specs.Refusals.{first_refusal, refuse}
use Rattle.ados_model.specs.Success.{After, GivesHandle, after}

-- the refusals of a shared handle on an object
abbrev pub open_refusals : Session → ℕ → Tree → List (Option DosError)
open_refusals s key t =
    refuse ObjectWrongType (not (is_file t key))
    ∷ refuse ObjectInUse (is_in_use s key false)
    ∷ []

-- the refusals of an exclusive handle on an object that is emptied for it
abbrev pub empty_refusals : Session → ℕ → Tree → List (Option DosError)
empty_refusals s key t =
    refuse ObjectWrongType (not (is_file t key))
    ∷ refuse ObjectInUse (is_in_use s key true)
    ∷ refuse DeleteProtected (denies_delete (protection_of t key))
    ∷ refuse WriteProtected (denies_write (protection_of t key))
    ∷ []

-- the refusals of a new file
abbrev pub make_refusals : Tree → List (Option DosError)
make_refusals t =
    refuse DiskFull (lacks t 1)
    ∷ []

-- no handle for this reason, and image and holds are the same
pub record IsUnopened (error : DosError) (old new : HandlerState) (results : Results) : Type 0 where
  pub image : new.image ≡ old.image
  pub validated : new.was_validated ≡ old.was_validated
  pub session : new.session ≡ old.session
  pub told : results ≡ record { res1 = dos_false; res2 = pos (error_number error); body = Empty }

-- a handle, and the other effects
pub record IsOpened (gives : After → Type 0) (old new : HandlerState) (results : Results) : Type 0 where
  pub tree : Tree
  pub stands : Stands new.image tree
  pub success : gives (after tree new.session results.res1 results.body)
  pub res2 : results.res2 ≡ pos 0
  pub keeps : (new.image ≡ old.image) ⊎ KeepsRest old.image new.image
  pub validated : new.was_validated ≡ old.was_validated

-- a handle, or none because there was no place for it
abbrev pub OpenedOrFull : (After → Type 0) → HandlerState → HandlerState → Results → Type 0
OpenedOrFull gives old new results =
    IsOpened gives old new results ⊎ ((old.places.for_handle ≡ false) × IsUnopened NoFreeStore old new results)

-- a handle unless one of these refusals holds or there was no place for it
pub record Opens (refusals : Tree → List (Option DosError)) (gives : Tree → After → Type 0) (old new : HandlerState) (results : Results) : Type 0 where
  pub tree : Tree
  pub stood : Stands old.image tree
  pub means : MatchOption (first_refusal (refusals tree)) (OpenedOrFull (gives tree) old new results) (λ error. IsUnopened error old new results)

-- a shared handle on an existing object
abbrev pub OpensShared : ℕ → HandlerState → HandlerState → Results → Type 0
OpensShared key old new results =
    Opens (open_refusals old.session key) (λ t left. GivesHandle t old.session key false left) old new results

-- an exclusive handle on an existing object, which is emptied
abbrev pub OpensEmptied : ℕ → Date3 → HandlerState → HandlerState → Results → Type 0
OpensEmptied key now old new results =
    Opens (empty_refusals old.session key) (λ t left. GivesHandle (rewritten now key [] t) old.session key true left) old new results

-- one more handle at the start of a file, and the results with its number
pub record BringsHandle (key : ℕ) (exclusive : Bool) (old new : numbered.FinMap nat_cmp HandleHold) (results : Results) : Type 0 where
  pub number : ℕ
  pub free : IsFreeNumber old number
  pub added : new ≡ numbered.insert old number (record { key = key; position = 0; exclusive = exclusive })
  pub told : results ≡ record { res1 = dos_true; res2 = pos 0; body = Handle number }
