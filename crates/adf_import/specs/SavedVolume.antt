-- A new volume with what was saved of a damaged image.
use Rattle.std.specs.Prelude.{◌≡◌, ◌⊎◌, ℕ, Bool, not, ◌||◌, MatchBool, if◌then◌else◌, List, [], ◌∷◌, ◌++◌, Contains, map, Option, Some, None, slice_get, codes, ⊤}
use Rattle.adf_block.specs.BootCode.{IsEmpty, boot_bytes}
use Rattle.adf_block.specs.Fields.{format_of, primary_type, secondary_type}
use Rattle.adf_block.specs.Image.{block_count, block_sum, root_key}
use Rattle.adf_block.specs.Whole.{text_at}
use Rattle.adf_block.specs.declared.layout.TheConstants.{CREATION_DATE, DATE, DISK_DATE, HEADER_TYPE, NAME_BYTE, ROOT_TYPE}
use Rattle.ados_name.specs.Name.{IsName}
use Rattle.ados_name.specs.declared.stamp.Date3.{Date3}
use Rattle.ados_model.specs.Change.{child_of}
use Rattle.ados_model.specs.Stands.{date_at}
use Rattle.ados_model.specs.Tree.{Content, Node, Tree, content_at, root}
use Rattle.ados_model.specs.Tree.Content.{Directory, File}
use Rattle.ados_salvage.specs.Marks.{mark_at}
use Rattle.adf_record.specs.Bundle.{IsHeadOf}
use Rattle.adf_record.specs.declared.bundle.BundleHead.{BundleHead}
use Rattle.ados_salvage.specs.Salvaged.{Saved}
use Rattle.ados_salvage.specs.Saved.{HasBytes}
use Rattle.ados_salvage.specs.declared.salvaged.Salvaged.{Salvaged}
use Rattle.ados_salvage.specs.declared.salvaged.State.{State}
use Rattle.ados_salvage.specs.declared.salvaged.State.TheVariants as states
use Rattle.adf_import.specs.SavedNames.{comment_for, is_whole, name_for}
use Rattle.adf_import.specs.declared.saved_names.OwnNames.{OwnNames}
use Rattle.adf_import.specs.declared.saved_volume.LeftEntry.{LeftEntry}
use Rattle.adf_import.specs.declared.spots.Spot.{Spot}

-- the path of the entry at a position: the names of the directories that it is in, and its own
pub data IsPathOf (entries : List Salvaged) : Option ℕ → List (List ℕ) → Type 0 where
  top : IsPathOf entries None []
  below : {place : ℕ} {entry : Salvaged} {front : List (List ℕ)} → slice_get entries place ≡ Some entry → IsPathOf entries entry.above front
      → IsPathOf entries (Some place) (front ++ name_for entry ∷ [])

-- what stands in front of a path: the directory for what is not whole, then that for what was found
abbrev pub front_for : OwnNames → Bool → Bool → List (List ℕ)
front_for own damaged found = (if damaged then own.damaged ∷ [] else []) ++ (if found then own.found ∷ [] else [])

-- the path of a place in the new volume
pub record IsSpotPath (entries : List Salvaged) (own : OwnNames) (spot : Spot) (path : List (List ℕ)) : Type 0 where
  pub rest : List (List ℕ)
  pub old : IsPathOf entries spot.entry rest
  pub all : path ≡ front_for own spot.damaged spot.found ++ rest

-- looked up from the root, name after name, the path leads to this object
pub data LeadsTo (t : Tree) : List (List ℕ) → ℕ → Type 0 where
  at_root : LeadsTo t [] (root t)
  child : (name : List ℕ) {front : List (List ℕ)} {dir key : ℕ} → LeadsTo t front dir → child_of t dir name ≡ Some key → LeadsTo t (front ++ name ∷ []) key

-- the object has the path of this place
pub record IsAtSpot (t : Tree) (entries : List Salvaged) (own : OwnNames) (spot : Spot) (key : ℕ) : Type 0 where
  pub path : List (List ℕ)
  pub spelled : IsSpotPath entries own spot path
  pub leads : LeadsTo t path key

-- the place of an entry: below the directory for what is not whole, if it is not, and below that for what was found, if it was
abbrev pub spot_of : ℕ → Salvaged → Spot
spot_of place entry = record { damaged = not (is_whole entry.state); found = entry.found; entry = Some place }

-- a node has the name, the bits, the date and the comment of an entry
pub record HasNoteOf (t : Tree) (key : ℕ) (entry : Salvaged) : Type 0 where
  pub node : Node
  pub there : t.nodes key ≡ Some node
  pub name : node.name ≡ name_for entry
  pub protection_bits : node.protection ≡ entry.protection.0
  pub date_field : node.date ≡ entry.date
  pub comment : node.comment ≡ comment_for entry.state entry.comment

-- a directory, whatever is in it
abbrev pub IsDirectoryContent : Option Content → Type 0
IsDirectoryContent content = (keys : List ℕ) × (content ≡ Some (Directory keys))

-- a file with the bytes that were saved of the entry at a position
pub record IsSavedFile (saved : Saved) (place : ℕ) (entry : Salvaged) (content : Option Content) : Type 0 where
  pub bytes : List ℕ
  pub file : content ≡ Some (File bytes)
  pub saved_bytes : HasBytes saved.image saved.given place entry.header entry.state bytes

-- a directory for a directory, and for any file one with the bytes that were saved of it; of a lost entry nothing
abbrev pub HoldsSaved : Saved → ℕ → Salvaged → State → Option Content → Type 0
HoldsSaved saved place entry states.Directory content = IsDirectoryContent content
HoldsSaved saved place entry states.DoubtfulDirectory content = IsDirectoryContent content
HoldsSaved saved place entry states.Lost content = ⊥
HoldsSaved saved place entry state content = IsSavedFile saved place entry content

-- the object is the entry at a position: its metadata and its bytes
pub record IsSavedAs (t : Tree) (saved : Saved) (place : ℕ) (entry : Salvaged) (key : ℕ) : Type 0 where
  pub noted : HasNoteOf t key entry
  pub holds : HoldsSaved saved place entry entry.state (content_at t key)

-- the entry at a position is in the new volume: at its path, with its metadata and its bytes
pub record IsSavedIn (t : Tree) (saved : Saved) (own : OwnNames) (place : ℕ) (entry : Salvaged) : Type 0 where
  pub key : ℕ
  pub at_path : IsAtSpot t saved.entries own (spot_of place entry) key
  pub same : IsSavedAs t saved place entry key

-- an entry of which nothing is left
abbrev pub IsLostState : State → Type 0
IsLostState states.Lost = ⊤
IsLostState state = ⊥

-- the positions of these entries
abbrev pub places_of : List LeftEntry → List ℕ
places_of left = map (λ entry. entry.place) left

-- each entry of which something is left is in the new volume, or among those that are left out
abbrev pub AreSaved : Tree → Saved → OwnNames → List LeftEntry → Type 0
AreSaved t saved own left =
    (place : ℕ) (entry : Salvaged) → slice_get saved.entries place ≡ Some entry
    → IsLostState entry.state ⊎ IsSavedIn t saved own place entry ⊎ Contains (places_of left) place

-- the types of a root and a right checksum
pub record HasRootFields (image : List ℕ) (block : ℕ) : Type 0 where
  pub primary : primary_type image block ≡ HEADER_TYPE
  pub secondary : secondary_type image block ≡ ROOT_TYPE
  pub sum : block_sum image block ≡ 0

-- a root with these, and with a valid name
abbrev pub HasSoundRoot : List ℕ → Type 0
HasSoundRoot image = HasRootFields image (root_key (block_count image)) × IsName (text_at image (root_key (block_count image)) NAME_BYTE)

-- the name and the dates of the root of an image
pub record HasRootHead (image : List ℕ) (head : BundleHead) : Type 0 where
  pub label : head.label ≡ text_at image (root_key (block_count image)) NAME_BYTE
  pub created : head.created ≡ date_at image (root_key (block_count image)) CREATION_DATE
  pub changed : head.changed ≡ date_at image (root_key (block_count image)) DISK_DATE
  pub root_date : head.root_date ≡ date_at image (root_key (block_count image)) DATE

-- a usual name, and this date
pub record HasUsualHead (moment : Date3) (head : BundleHead) : Type 0 where
  pub label : head.label ≡ codes "Saved"
  pub created : head.created ≡ moment
  pub changed : head.changed ≡ moment
  pub root_date : head.root_date ≡ moment

-- the kind and the size of the old image; and the name and the dates of its root, if that is sound
pub record IsHeadFor (image : List ℕ) (moment : Date3) (head : BundleHead) : Type 0 where
  pub format : head.format ≡ format_of image
  pub blocks : head.blocks ≡ block_count image
  pub named : (HasSoundRoot image × HasRootHead image head) ⊎ ((¬ HasSoundRoot image) × HasUsualHead moment head)

-- the new volume has such a head
abbrev pub HasHeadFor : List ℕ → Date3 → Tree → Type 0
HasHeadFor image moment t = (head : BundleHead) × IsHeadFor image moment head × IsHeadOf t head

-- one of the two boot blocks was not read
abbrev pub is_boot_hole : List Bool → Bool
is_boot_hole holes = mark_at holes 0 || mark_at holes 1

-- the boot block of the old image; none if one of its blocks was not read
abbrev pub HasBootOf : Saved → List ℕ → Type 0
HasBootOf saved image = MatchBool (is_boot_hole saved.holes) (IsEmpty image) (boot_bytes image ≡ boot_bytes saved.image)
