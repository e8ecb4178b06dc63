-- The descriptions of an image's entries.
use Rattle.std.specs.Prelude.{◌≡◌, ◌≢◌, ℕ, zero, suc, ◌+◌, ◌*◌, ◌<◌, ◌≤◌, ◌⊎◌, Bool, MatchBool, List, [], ◌∷◌, ◌++◌, decimal, length, All, AllPairs, Contains, map, None, Some, true, false, ⊤}
use Rattle.adf_block.specs.Fields.{protection}
use Rattle.adf_block.specs.Image.{byte_at}
use Rattle.adf_block.specs.declared.layout.TheConstants.{COMMENT_BYTE, DATE, NAME_BYTE}
use Rattle.adf_block.specs.Whole.{text_at}
use Rattle.ados_name.specs.Name.{IsName}
use Rattle.ados_model.specs.File.{contents}
use Rattle.ados_model.specs.Accepted.{Accepts}
use Rattle.ados_model.specs.Stands.{date_at, Stands}
use Rattle.ados_model.specs.Faults.{HasDirectoryType, HasFileType}
use Rattle.ados_model.specs.Tree.{Content, Node, Tree, entries, root}
use Rattle.ados_model.specs.Tree.Content.{Directory, File}
use Rattle.ados_volume.specs.Below.{AreBelow, placed}
use Rattle.ados_volume.specs.declared.below.Below.{Below}
use Rattle.ados_salvage.specs.Deleted.{AreDeleted, TellsTrust}
use Rattle.ados_salvage.specs.Doubtful.{IsDoubtfulHeader, IsHeader, IsToldHeader}
use Rattle.ados_salvage.specs.Found.{AreHidden, IsLostHeader, IsSavedWhole}
use Rattle.ados_salvage.specs.Marks.{IsHole}
use Rattle.ados_salvage.specs.Sound.{IsSoundHeader}
use Rattle.ados_salvage.specs.declared.giving.Piece.{Piece}
use Rattle.ados_salvage.specs.declared.salvaged.HeaderState.{HeaderState}
use Rattle.ados_salvage.specs.declared.salvaged.HeaderState.TheVariants as heads
use Rattle.ados_salvage.specs.declared.salvaged.Salvaged.{Salvaged}
use Rattle.ados_salvage.specs.declared.salvaged.State.{State}
use Rattle.ados_salvage.specs.declared.salvaged.State.TheVariants as states
use Rattle.ados_salvage.specs.Due.{IsDue}
use Rattle.ados_salvage.specs.PutRight.{IsReadDamaged}
use Rattle.ados_salvage.specs.Loose.{IsLeft}
use Rattle.ados_salvage.specs.Lost.{IsLost}
use Rattle.ados_salvage.specs.Missing.{TellsMissing}
use Rattle.ados_salvage.specs.Saved.{IsAt}

-- how contracts see a salvage: whether the image was accepted, the image as it was read, whether its bitmap is trusted, its
-- entries, the headers that were left out, the blocks given to files that are not whole, the marks of the holes, and whether a known
-- filler in a data block counts against its file
pub record Saved : Type 0 where
  pub accepted : Bool
  pub image : List ℕ
  pub trusted : Bool
  pub entries : List Salvaged
  pub deleted : List ℕ
  pub given : List Piece
  pub holes : List Bool
  pub fillers : Bool

-- a name with `~` and the number of a header behind it, so many times
unfoldable pub ended : List ℕ → ℕ → ℕ → List ℕ
ended name header zero = name
ended name header (suc endings) = ended name header endings ++ 126 ∷ decimal header

-- the header of a file is like that, where some headers are left out
abbrev pub HasHeaderState : List ℕ → List ℕ → ℕ → HeaderState → Type 0
HasHeaderState out image block heads.Sound = IsSoundHeader image block
HasHeaderState out image block heads.Doubtful = IsDoubtfulHeader out image block
HasHeaderState out image block heads.Gone = ⊥

-- the state fits the header, where some headers are left out, some blocks are holes, and fillers count or not: a directory or file whose
-- header is sound or doubtful, a whole file, or a broken one, which is not whole
abbrev pub HasState : List ℕ → List Bool → Bool → List ℕ → ℕ → State → Type 0
HasState out holes fillers image block states.Directory = IsSoundHeader image block × HasDirectoryType image block
HasState out holes fillers image block states.DoubtfulDirectory = IsDoubtfulHeader out image block × HasDirectoryType image block
HasState out holes fillers image block states.Whole = IsSavedWhole out holes fillers image block
HasState out holes fillers image block (states.Doubtful heading length) = HasHeaderState out image block heading × HasFileType image block × ¬ IsSavedWhole out holes fillers image block
HasState out holes fillers image block (states.Broken missing cut length) = HasFileType image block × ¬ IsSavedWhole out holes fillers image block
HasState out holes fillers image block states.Lost = ⊥

-- the header is sound or doubtful, and the description has its fields, but for a comment that is too long; where the entry is, and whether it
-- was recovered, are free
pub record IsSalvaged (out : List ℕ) (holes : List Bool) (fillers : Bool) (image : List ℕ) (entry : Salvaged) : Type 0 where
  pub header : IsHeader out image entry.header
  pub name : entry.name ≡ text_at image entry.header NAME_BYTE
  pub protection_bits : entry.protection.0 ≡ protection image entry.header
  pub date_field : entry.date ≡ date_at image entry.header DATE
  pub comment : byte_at image entry.header COMMENT_BYTE ≤ 79 → entry.comment ≡ text_at image entry.header COMMENT_BYTE
  pub state : HasState out holes fillers image entry.header entry.state

-- the entry is lost, and has the name in its block if that is valid; the rest of the description is free
pub record IsLostEntry (out image : List ℕ) (entry : Salvaged) : Type 0 where
  pub lost : IsLost out image entry.header
  pub name : IsName (text_at image entry.header NAME_BYTE) → entry.name ≡ text_at image entry.header NAME_BYTE
  pub state : entry.state ≡ states.Lost

-- the description of a sound or doubtful header, or of a lost entry
abbrev pub IsTold : List ℕ → List Bool → Bool → List ℕ → Salvaged → Type 0
IsTold out holes fillers image entry = IsSalvaged out holes fillers image entry ⊎ IsLostEntry out image entry

-- the state of a file without a header: no data block is missing, or some are or it is cut short
abbrev pub IsGone : State → Type 0
IsGone (states.Doubtful heads.Gone length) = ⊤
IsGone (states.Broken missing cut length) = ⊤
IsGone state = ⊥

-- a file whose header is no header that is told: it is made of OFS data blocks that name it, or of FFS extension blocks that do. The rest
-- of the description is free
pub record IsLoose (out image : List ℕ) (header : ℕ) (state : State) : Type 0 where
  pub untold : ¬ IsHeader out image header
  pub named : (block : ℕ) × IsLeft image header block
  pub gone : IsGone state

-- the description of an entry that is told, or of a file without a header
abbrev pub IsListed : List ℕ → List Bool → Bool → List ℕ → Salvaged → Type 0
IsListed out holes fillers image entry = IsTold out holes fillers image entry ⊎ IsLoose out image entry.header entry.state

-- the headers of these entries
abbrev pub headers_of : List Salvaged → List ℕ
headers_of found = map (λ entry. entry.header) found

-- the entries are the told ones, each once: the sound headers but those that are left out, the doubtful headers and the
-- lost entries of the image; and files without a header, some of them in place of a lost entry
pub record AreSalvaged (out : List ℕ) (holes : List Bool) (fillers : Bool) (image : List ℕ) (found : List Salvaged) : Type 0 where
  pub told : All (IsListed out holes fillers image) found
  pub once : AllPairs (λ a b. a ≢ b) (headers_of found)
  pub sound : (block : ℕ) → IsToldHeader out image block → Contains (headers_of found) block
  pub doubtful : (block : ℕ) → IsDoubtfulHeader out image block → Contains (headers_of found) block
  pub lost : (block : ℕ) → IsLost out image block → Contains (headers_of found) block

-- a directory, or a whole file that has these bytes in the image
abbrev pub HoldsAll : List ℕ → ℕ → Content → State → Type 0
HoldsAll image header (Directory keys) states.Directory = ⊤
HoldsAll image header (File bytes) states.Whole = contents image header ≡ bytes
HoldsAll image header _ _ = ⊥

-- the number of bytes of a file that is not whole
abbrev pub broken_length : State → ℕ
broken_length (states.Doubtful heading length) = length
broken_length (states.Broken missing cut length) = length
broken_length state = 0

-- how many data blocks of an entry are missing, and whether it is cut short: only a broken file has missing ones or is cut
abbrev pub missing_in : State → ℕ
missing_in (states.Broken missing cut length) = missing
missing_in state = 0

abbrev pub is_cut : State → Bool
is_cut (states.Broken missing cut length) = cut
is_cut state = false

-- the number of bytes of all files that are not whole
unfoldable pub broken_total : List Salvaged → ℕ
broken_total [] = 0
broken_total (entry ∷ rest) = broken_length entry.state + broken_total rest

-- an entry of the tree with its name and metadata, whole in this image and not recovered
pub record IsOfTree (image : List ℕ) (t : Tree) (entry : Salvaged) : Type 0 where
  pub node : Node
  pub at : t.nodes entry.header ≡ Some node
  pub name : entry.name ≡ node.name
  pub protection_bits : entry.protection.0 ≡ node.protection
  pub date_field : entry.date ≡ node.date
  pub comment : entry.comment ≡ node.comment
  pub holds : HoldsAll image entry.header node.content entry.state
  pub plain : entry.endings ≡ 0
  pub reached : entry.found ≡ false

-- its header, and the position of its directory
abbrev pub located_of : Salvaged → Below
located_of entry = placed entry.above entry.header

-- all entries of the tree below its root, in their order, and behind them only found ones
pub record AreOfTree (t : Tree) (saved : Saved) : Type 0 where
  pub tree : List Salvaged
  pub found : List Salvaged
  pub all : saved.entries ≡ tree ++ found
  pub below : AreBelow t None 0 (entries t (root t)) (map located_of tree)
  pub told : All (IsOfTree saved.image t) tree
  pub besides : All (λ entry. entry.found ≡ true) found

-- each block is given once: no block is given to two files, or twice to one
abbrev pub AreApart : List Piece → Type 0
AreApart given = AllPairs (λ piece other. piece.block ≢ other.block) given

-- each block is given to an entry, and due to its file
pub record AreDue (saved : Saved) : Type 0 where
  pub within : All (λ piece. piece.place < length saved.entries) saved.given
  pub due : All (λ piece. (entry : Salvaged) → IsAt saved.entries piece.place entry → IsDue saved.image entry.header piece.at piece.block) saved.given

-- the bitmap is trusted or not. The deleted entries are left out, and the entries are all others that are told; no block is given to two files, and no hole
-- to any, and each is due to its file; each file that is not whole says how many of its blocks are missing, if its header is told; and all these files have together at
-- most four times the bytes of the image
pub record SavesSound (saved : Saved) : Type 0 where
  pub trust : TellsTrust saved.image saved.trusted
  pub deleted : AreDeleted saved.image saved.deleted
  pub salvaged : AreSalvaged saved.deleted saved.holes saved.fillers saved.image saved.entries
  pub apart : AreApart saved.given
  pub there : All (λ piece. ¬ IsHole saved.holes piece.block) saved.given
  pub bounded : broken_total saved.entries ≤ 4 * length saved.image
  pub missing : (place : ℕ) (entry : Salvaged) → place < length saved.entries → IsAt saved.entries place entry → IsHeader saved.deleted saved.image entry.header
      → TellsMissing saved.image saved.given place entry.header entry.state
  pub due : AreDue saved

-- beside its tree, the entries of an accepted image are the sound headers among its lost blocks, found. Where hidden headers are
-- left out, each has its fields. No block is given to two files, and no hole to any, and each is due to its file; the files that are not whole say how many of their
-- blocks are missing, and have together at most four times the bytes of the image
pub record FindsLost (saved : Saved) : Type 0 where
  pub out : List ℕ
  pub hidden : AreHidden saved.image out
  pub told : All (λ entry. entry.found ≡ true → IsSalvaged out saved.holes saved.fillers saved.image entry) saved.entries
  pub once : AllPairs (λ a b. a ≢ b) (headers_of saved.entries)
  pub all : (block : ℕ) → IsLostHeader saved.image block → Contains (headers_of saved.entries) block
  pub apart : AreApart saved.given
  pub there : All (λ piece. ¬ IsHole saved.holes piece.block) saved.given
  pub bounded : broken_total saved.entries ≤ 4 * length saved.image
  pub missing : (place : ℕ) (entry : Salvaged) → place < length saved.entries → IsAt saved.entries place entry → entry.found ≡ true
      → TellsMissing saved.image saved.given place entry.header entry.state
  pub due : AreDue saved

-- no entry is found
abbrev pub FindsNone : Saved → Type 0
FindsNone saved = All (λ entry. entry.found ≡ false) saved.entries

-- the image was accepted, possibly with a new bitmap, and these are the entries of its tree, and its deleted entries; its
-- bitmap, as it was given, is trusted or not. Where it is, the sound headers among the lost blocks are found, and else none. Fillers
-- count if a list of unread blocks was given
pub record SavesTree (listed : Bool) (image : List ℕ) (saved : Saved) : Type 0 where
  pub accepted : saved.accepted ≡ true
  pub counted : saved.fillers ≡ listed
  pub validated : Bool
  pub accepts : Accepts image validated saved.image
  pub tree : (t : Tree) → Stands saved.image t → AreOfTree t saved
  pub beside : MatchBool saved.trusted (FindsLost saved) (FindsNone saved)
  pub trust : TellsTrust image saved.trusted
  pub deleted : AreDeleted image saved.deleted

-- the image was refused, and these are its told entries. Fillers count
pub record SavesRest (image : List ℕ) (saved : Saved) : Type 0 where
  pub refused : saved.accepted ≡ false
  pub counted : saved.fillers ≡ true
  pub read : IsReadDamaged image saved.image
  pub saves : SavesSound saved

-- one of both, and these are the holes
abbrev pub SavesBeside : List Bool → Bool → List ℕ → Saved → Type 0
SavesBeside holes listed image saved = (saved.holes ≡ holes) × (SavesTree listed image saved ⊎ SavesRest image saved)

-- everything that can be told of an image without holes and without a list of them
abbrev pub Salvages : List ℕ → Saved → Type 0
Salvages image saved = SavesBeside [] false image saved
