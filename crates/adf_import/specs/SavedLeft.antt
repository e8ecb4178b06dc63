-- What a new volume has not of a damaged image, and why.
use Rattle.std.specs.Prelude.{◌≡◌, ◌≢◌, ℕ, ◌+◌, ◌<◌, ◌&&◌, Bool, true, false, not, List, All, AllPairs, Option, Some, None, option_map, slice_get, ⊤}
use Rattle.ados_name.specs.declared.stamp.Date3.{Date3}
use Rattle.ados_model.specs.Change.{child_of, is_file}
use Rattle.ados_model.specs.Keys.{HasTree}
use Rattle.ados_model.specs.Stands.{Stands}
use Rattle.ados_model.specs.Tree.{Tree, block_cost, content_at, free}
use Rattle.ados_salvage.specs.Salvaged.{Saved}
use Rattle.ados_salvage.specs.Saved.{size_of}
use Rattle.ados_salvage.specs.declared.salvaged.Salvaged.{Salvaged}
use Rattle.ados_salvage.specs.declared.salvaged.State.{State}
use Rattle.ados_salvage.specs.declared.salvaged.State.TheVariants as states
use Rattle.adf_import.specs.SavedNames.{name_for}
use Rattle.adf_import.specs.SavedVolume.{AreSaved, HasBootOf, HasHeadFor, IsAtSpot, IsDirectoryContent, IsLostState, IsSavedAs, places_of, spot_of}
use Rattle.adf_import.specs.declared.saved_left.LeftOut.{LeftOut}
use Rattle.adf_import.specs.declared.saved_left.LeftOut.TheVariants.{Joined, NoDirectory, NoRoom, Taken}
use Rattle.adf_import.specs.declared.saved_names.OwnNames.{OwnNames}
use Rattle.adf_import.specs.declared.saved_volume.LeftEntry.{LeftEntry}
use Rattle.adf_import.specs.declared.spots.Spot.{Spot}

-- a place
abbrev pub spot_with : Bool → Bool → Option ℕ → Spot
spot_with damaged found entry = record { damaged = damaged; found = found; entry = entry }

-- the place of the root
abbrev pub root_spot : Spot
root_spot = spot_with false false None

-- the place of the directory of an entry, of one of the two directories, and none for the root
abbrev pub above_in : List Salvaged → Bool → Bool → Option ℕ → Option Spot
above_in entries damaged found (Some place) = option_map (λ entry. spot_with damaged found entry.above) (slice_get entries place)
above_in entries damaged true None = Some (spot_with damaged false None)
above_in entries true false None = Some root_spot
above_in entries false false None = None

abbrev pub spot_above : List Salvaged → Spot → Option Spot
spot_above entries at = above_in entries at.damaged at.found at.entry

-- the name of the entry at a position, and of one of the two directories
abbrev pub IsNameIn : List Salvaged → OwnNames → Bool → Bool → Option ℕ → List ℕ → Type 0
IsNameIn entries own damaged found (Some place) name = (entry : Salvaged) × (slice_get entries place ≡ Some entry) × (name ≡ name_for entry)
IsNameIn entries own damaged true None name = name ≡ own.found
IsNameIn entries own true false None name = name ≡ own.damaged
IsNameIn entries own false false None name = ⊥

abbrev pub IsNameAt : List Salvaged → OwnNames → Spot → List ℕ → Type 0
IsNameAt entries own at name = IsNameIn entries own at.damaged at.found at.entry name

-- the object has everything of the entry at a position, if it is for one
abbrev pub IsSavedAt : Tree → Saved → Option ℕ → ℕ → Type 0
IsSavedAt t saved None key = ⊤
IsSavedAt t saved (Some place) key = (entry : Salvaged) → slice_get saved.entries place ≡ Some entry → IsSavedAs t saved place entry key

-- the directory of a place is there, and has no entry with its name
pub record IsVacant (t : Tree) (entries : List Salvaged) (own : OwnNames) (spot : Spot) : Type 0 where
  pub above : Spot
  pub up : spot_above entries spot ≡ Some above
  pub dir : ℕ
  pub at_path : IsAtSpot t entries own above dir
  pub directory : IsDirectoryContent (content_at t dir)
  pub name : List ℕ
  pub named : IsNameAt entries own spot name
  pub none : child_of t dir name ≡ None

-- no directory is at this place: it is vacant and no block is free for one, or a file has its name, or its own directory is not there
pub data HasNoDirectory (t : Tree) (entries : List Salvaged) (own : OwnNames) : Spot → Type 0 where
  is_vacant : {spot : Spot} → IsVacant t entries own spot → free t ≡ 0 → HasNoDirectory t entries own spot
  has_file : {spot : Spot} (key : ℕ) → IsAtSpot t entries own spot key → is_file t key ≡ true → HasNoDirectory t entries own spot
  has_none_above : {spot above : Spot} → spot_above entries spot ≡ Some above → HasNoDirectory t entries own above → HasNoDirectory t entries own spot

-- the directory of a place is not there
abbrev pub IsCutOff : Tree → List Salvaged → OwnNames → Spot → Type 0
IsCutOff t entries own spot = (above : Spot) × (spot_above entries spot ≡ Some above) × HasNoDirectory t entries own above

-- the number of blocks that an entry needs: a header, and those for its bytes
abbrev pub blocks_for : Tree → Saved → Salvaged → ℕ
blocks_for t saved entry = 1 + block_cost t.format (size_of saved.image entry.header entry.state)

-- a directory
abbrev pub is_directory : State → Bool
is_directory states.Directory = true
is_directory states.DoubtfulDirectory = true
is_directory state = false

-- the object at the path of a place is that of another place, and has everything of the entry there; both entries are directories or not
pub record IsTaken (t : Tree) (saved : Saved) (own : OwnNames) (spot : Spot) (state : State) (both : Bool) : Type 0 where
  pub key : ℕ
  pub at_path : IsAtSpot t saved.entries own spot key
  pub other : Spot
  pub differs : other ≢ spot
  pub at_other : IsAtSpot t saved.entries own other key
  pub same : IsSavedAt t saved other.entry key
  pub directories : (is_directory state && not (is_file t key)) ≡ both

-- an entry needs so many blocks, and fewer are free
pub record HasNoRoom (t : Tree) (saved : Saved) (entry : Salvaged) (needed room : ℕ) : Type 0 where
  pub needs : needed ≡ blocks_for t saved entry
  pub has : room ≡ free t
  pub less : room < needed

-- the entry at a position cannot be in the volume, for this reason
abbrev pub HasReason : Tree → Saved → OwnNames → ℕ → Salvaged → LeftOut → Type 0
HasReason t saved own place entry (NoRoom needed room) = IsVacant t saved.entries own (spot_of place entry) × HasNoRoom t saved entry needed room
HasReason t saved own place entry Taken = IsTaken t saved own (spot_of place entry) entry.state false
HasReason t saved own place entry Joined = IsTaken t saved own (spot_of place entry) entry.state true
HasReason t saved own place entry NoDirectory = IsCutOff t saved.entries own (spot_of place entry)

-- something is left of the entry, and it cannot be in the volume for its reason
pub record IsLeftOut (t : Tree) (saved : Saved) (own : OwnNames) (left : LeftEntry) : Type 0 where
  pub entry : Salvaged
  pub there : slice_get saved.entries left.place ≡ Some entry
  pub not_lost : ¬ IsLostState entry.state
  pub reason : HasReason t saved own left.place entry left.why

-- the entries that are left out, in the order of the salvage, each once, and each for its reason
pub record AreLeftOut (t : Tree) (saved : Saved) (own : OwnNames) (left : List LeftEntry) : Type 0 where
  pub in_order : AllPairs (λ a b. a < b) (places_of left)
  pub reasons : All (IsLeftOut t saved own) left

-- this image and this list are what a salvage gives: a volume with everything that can be there, its head and its boot block, and the
-- entries that are left out
pub record IsVolumeOf (saved : Saved) (moment : Date3) (image : List ℕ) (own : OwnNames) (left : List LeftEntry) : Type 0 where
  pub stands : HasTree image
  pub entries : (t : Tree) → Stands image t → AreSaved t saved own left
  pub left_out : (t : Tree) → Stands image t → AreLeftOut t saved own left
  pub head : (t : Tree) → Stands image t → HasHeadFor saved.image moment t
  pub boot : HasBootOf saved image
