-- The map of a refused disk: what each block is by the places that name it, where it shows a fault, and where two places name it.
use Rattle.std.specs.Prelude.{◌≡◌, ◌≢◌, ◌⊎◌, ℕ, ◌<◌, ◌≤◌, Bool, true, false, List, [], ◌∷◌, ◌++◌, codes}
use Rattle.std.specs.List.{AllZip, range_with_len}
use Rattle.json.specs.Token.{Token, begin_object, boolean, end_object, key, string}
use Rattle.json.specs.Print.{print}
use Rattle.adf_block.specs.Image.{block_count}
use Rattle.adf_block.specs.declared.layout.TheConstants.{BOOT_BLOCKS}
use Rattle.ados_census.specs.declared.place.PlaceKind.{PlaceKind}
use Rattle.ados_census.specs.declared.place.PlaceKind.TheVariants as places
use Rattle.ados_census.specs.declared.place.Place.{Place}
use Rattle.ados_census.specs.Places.{NamesBlock, rank}
use Rattle.ados_check.specs.BitmapTold.{IsFree}
use Rattle.ados_model.specs.declared.fault.FaultKind.{FaultKind}
use Rattle.ados_model.specs.Faults.{HasFileType, InImage, Shows, root_of}
use Rattle.adf_text.specs.Letters.{letters}
use Rattle.adf_where.specs.declared.block_mark.BlockMark.{BlockMark}
use Rattle.adf_where.specs.declared.block_mark.BlockMark.TheVariants.{Boot, Root, Bitmap, Directory, File, Extension, Data, Lost, Free, Faulty, Twice}
use Rattle.adf_cli.specs.declared.map_form.MapForm.{MapForm}
use Rattle.adf_cli.specs.declared.map_form.MapForm.TheVariants.{Json}
use Rattle.adf_where.specs.BlockMap.{map_page, shown_letter}
use Rattle.adf_where.specs.Refused.{fault_reason, refused_line}

-- two places are one long
abbrev pub IsSameLong : Place → Place → Type 0
IsSameLong one other = (one.holder ≡ other.holder) × (one.long ≡ other.long)

-- two longs name the block, which is one after the boot blocks
pub record IsNamedTwice (image : List ℕ) (block : ℕ) : Type 0 where
  pub inside : InImage image block
  pub one : Place
  pub other : Place
  pub first : NamesBlock image block one
  pub second : NamesBlock image block other
  pub apart : ¬ IsSameLong one other

-- one long alone names the block, and this is what it makes of it: the first of these, where its own block is reached in several roles
pub record IsNamedOnce (image : List ℕ) (block : ℕ) (kind : PlaceKind) : Type 0 where
  pub place : Place
  pub names : NamesBlock image block place
  pub makes : place.kind ≡ kind
  pub alone : (other : Place) → NamesBlock image block other → IsSameLong other place
  pub first : (other : Place) → NamesBlock image block other → rank place.kind ≤ rank other.kind

-- one long alone makes the block an entry of a directory
abbrev pub IsNamedEntry : List ℕ → ℕ → Type 0
IsNamedEntry image block = IsNamedOnce image block places.Entry ⊎ IsNamedOnce image block places.NextEntry

-- no place names the block
abbrev pub IsUnnamed : List ℕ → ℕ → Type 0
IsUnnamed image block = (place : Place) → ¬ NamesBlock image block place

-- what a block that is neither a boot block nor the root is by the place that names it, or by its bit if none does
abbrev pub IsByPlace : List ℕ → ℕ → BlockMark → Type 0
IsByPlace image block Bitmap = IsNamedOnce image block places.Page
IsByPlace image block Directory = IsNamedEntry image block × ¬ HasFileType image block
IsByPlace image block File = IsNamedEntry image block × HasFileType image block
IsByPlace image block Extension = IsNamedOnce image block places.Extension
IsByPlace image block Data = IsNamedOnce image block places.Data
IsByPlace image block Lost = IsUnnamed image block × ¬ IsFree image block
IsByPlace image block Free = IsUnnamed image block × IsFree image block
IsByPlace image block _ = ⊥

-- what a block without a fault is
abbrev pub IsPlain : List ℕ → ℕ → BlockMark → Type 0
IsPlain image block Boot = block < BOOT_BLOCKS
IsPlain image block Root = block ≡ root_of image
IsPlain image block mark = InImage image block × (block ≢ root_of image) × IsByPlace image block mark

-- the block shows a fault
abbrev pub ShowsAt : List ℕ → ℕ → Type 0
ShowsAt image block = (kind : FaultKind) × Shows image kind block

-- what a block is in the map: two longs name it; or else it shows a fault; or else it is what it is without one
abbrev pub HasMark : List ℕ → ℕ → BlockMark → Type 0
HasMark image block Twice = IsNamedTwice image block
HasMark image block Faulty = (¬ IsNamedTwice image block) × ShowsAt image block
HasMark image block mark = (¬ IsNamedTwice image block) × (¬ ShowsAt image block) × IsPlain image block mark

-- the letter of a block; some could not be read
pub record HasLetter (image : List ℕ) (unread : List Bool) (block shown : ℕ) : Type 0 where
  pub mark : BlockMark
  pub is : HasMark image block mark
  pub letter_is : shown ≡ shown_letter unread block mark

-- the object: why the disk is refused, all letters as one text, and that there are no more faults than these show
abbrev pub faulty_map_tokens : List ℕ → ℕ → List ℕ → List Token
faulty_map_tokens kind at marks =
    begin_object ∷ key (codes "refused") ∷ fault_reason kind at ++ (key (codes "map") ∷ string marks ∷ key (codes "more") ∷ boolean false ∷ end_object ∷ [])

-- the map of a disk that is refused with this word for the fault of a block, in one of its forms
abbrev pub faulty_map_of : MapForm → List Bool → List ℕ → ℕ → List ℕ → List ℕ
faulty_map_of Json unread kind at marks = print (faulty_map_tokens kind at (letters marks)) ++ codes "\n"
faulty_map_of form unread kind at marks = refused_line kind at ++ map_page form true unread marks

-- the text is the map of the image, which is refused with this word for the fault of a block: a letter for each block, of which some could
-- not be read
pub record IsFaultyMap (form : MapForm) (unread : List Bool) (image kind : List ℕ) (at : ℕ) (text : List ℕ) : Type 0 where
  pub marks : List ℕ
  pub are_marks : AllZip (HasLetter image unread) (range_with_len 0 (block_count image)) marks
  pub text_is : text ≡ faulty_map_of form unread kind at marks
