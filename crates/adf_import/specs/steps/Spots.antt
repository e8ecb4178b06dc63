-- What is found in a new volume, and what is told of an entry.
use Rattle.std.specs.Prelude.{◌≡◌, ◌≢◌, ◌⊎◌, ℕ, Bool, true, List, [], ◌∷◌, Option, Some, None, ⊤}
use Rattle.ados_model.specs.declared.answer.FileInfo.{FileInfo}
use Rattle.ados_model.specs.Change.{child_of}
use Rattle.ados_model.specs.Keys.{HasDirectory, HasKey}
use Rattle.ados_model.specs.Stands.{Stands}
use Rattle.ados_model.specs.Tree.{Tree}
use Rattle.ados_salvage.specs.Salvaged.{Saved}
use Rattle.ados_salvage.specs.declared.salvaged.Salvaged.{Salvaged}
use Rattle.adf_import.specs.SavedLeft.{HasReason, IsCutOff, IsSavedAt, IsVacant, spot_above}
use Rattle.adf_import.specs.SavedVolume.{IsAtSpot, IsLostState, IsSavedIn}
use Rattle.adf_import.specs.declared.saved_left.LeftOut.{LeftOut}
use Rattle.adf_import.specs.declared.saved_look.Above.{Above}
use Rattle.adf_import.specs.declared.saved_look.Above.TheVariants as aboves
use Rattle.adf_import.specs.declared.saved_look.AtPath.{AtPath}
use Rattle.adf_import.specs.declared.saved_look.AtPath.TheVariants as paths
use Rattle.adf_import.specs.declared.saved_look.Looked.{Looked}
use Rattle.adf_import.specs.declared.saved_names.OwnNames.{OwnNames}
use Rattle.adf_import.specs.declared.saved_volume.LeftEntry.{LeftEntry}
use Rattle.adf_import.specs.declared.spots.Spot.{Spot}

-- an object at the path of a place, with everything of its entry if it is said to
pub record IsObjectAt (image : List ℕ) (saved : Saved) (own : OwnNames) (spot : Spot) (key : ℕ) (has_all : Bool) : Type 0 where
  pub known : HasKey image key
  pub there : (t : Tree) → Stands image t → IsAtSpot t saved.entries own spot key
  pub same : (t : Tree) → Stands image t → has_all ≡ true → IsSavedAt t saved spot.entry key

-- what is at the path of a place
abbrev pub IsFoundAt : List ℕ → Saved → OwnNames → Spot → AtPath → Type 0
IsFoundAt image saved own spot (paths.Object key has_all) = IsObjectAt image saved own spot key has_all
IsFoundAt image saved own spot paths.Nothing = (t : Tree) → Stands image t → IsVacant t saved.entries own spot
IsFoundAt image saved own spot paths.NoDirectory = (t : Tree) → Stands image t → IsCutOff t saved.entries own spot
IsFoundAt image saved own spot paths.Unknown = ⊤

-- what was found at the path of a place is there
abbrev pub IsLooked : List ℕ → Saved → OwnNames → Looked → Type 0
IsLooked image saved own looked = IsFoundAt image saved own looked.spot looked.there

-- the directory of a place is this one, or it is not there
abbrev pub IsAboveAt : List ℕ → Saved → OwnNames → Spot → Above → Type 0
IsAboveAt image saved own spot (aboves.Directory dir) =
    HasDirectory image dir × ((t : Tree) → Stands image t → (above : Spot) × (spot_above saved.entries spot ≡ Some above) × IsAtSpot t saved.entries own above dir)
IsAboveAt image saved own spot aboves.Missing = (t : Tree) → Stands image t → IsCutOff t saved.entries own spot
IsAboveAt image saved own spot aboves.Unknown = ⊤

-- an entry of a directory, with everything of the entry of a place if it is said to
pub record IsChildObject (image : List ℕ) (saved : Saved) (spot : Spot) (dir : ℕ) (name : List ℕ) (key : ℕ) (has_all : Bool) : Type 0 where
  pub known : HasKey image key
  pub child : (t : Tree) → Stands image t → child_of t dir name ≡ Some key
  pub same : (t : Tree) → Stands image t → has_all ≡ true → IsSavedAt t saved spot.entry key

-- what a directory has under the name of a place
abbrev pub IsChildAt : List ℕ → Saved → Spot → ℕ → List ℕ → AtPath → Type 0
IsChildAt image saved spot dir name (paths.Object key has_all) = IsChildObject image saved spot dir name key has_all
IsChildAt image saved spot dir name paths.Nothing = (t : Tree) → Stands image t → child_of t dir name ≡ None
IsChildAt image saved spot dir name paths.NoDirectory = ⊥
IsChildAt image saved spot dir name paths.Unknown = ⊥

-- the entry at a position is left out for a reason; or nothing is left of it, or it is in the new volume
abbrev pub IsTold : Tree → Saved → OwnNames → ℕ → Salvaged → Option LeftOut → Type 0
IsTold t saved own place entry None = IsLostState entry.state ⊎ IsSavedIn t saved own place entry
IsTold t saved own place entry (Some why) = (¬ IsLostState entry.state) × HasReason t saved own place entry why

-- something else than the entry of a place is the object with this key, with everything of its own entry
abbrev pub IsOfOther : Spot → ℕ → Looked → Type 0
IsOfOther spot key looked = (looked.spot ≢ spot) × (looked.there ≡ paths.Object key true)

-- what is told of an object is this name and this comment, and the bits and the date of an entry
pub record IsNoteOf (told : FileInfo) (entry : Salvaged) (name comment : List ℕ) : Type 0 where
  pub name_field : told.name ≡ name
  pub protection_bits : told.protection.0 ≡ entry.protection.0
  pub date_field : told.date ≡ entry.date
  pub comment_field : told.comment ≡ comment

-- the entry that is left out, if one is
abbrev pub left_at : ℕ → Option LeftOut → List LeftEntry
left_at place None = []
left_at place (Some why) = record { place = place; why = why } ∷ []
