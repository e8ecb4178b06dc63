-- What is told of blocks of a refused image: the places that name them, and their faults.
use Rattle.std.specs.Prelude.{◌≡◌, ℕ, ◌-◌, ◌==◌, nat_lt, Bool, false, if◌then◌else◌, List, [], ◌∷◌, ◌++◌, length, All, AllPairs, Contains, flat_map, codes, decimal, Option, Some, None}
use Rattle.std.specs.Option.{option_map_or}
use Rattle.std.specs.List.{AllZip}
use Rattle.json.specs.Token.{Token, begin_object, boolean, end_object, key, number, string}
use Rattle.json.specs.Print.{print}
use Rattle.adf_block.specs.Image.{block_count}
use Rattle.adf_block.specs.declared.layout.TheConstants.{BOOT_BLOCKS, FIRST_PAGE, FIRST_POINTER}
use Rattle.ados_faults.specs.Listed.{ListsAll, ListsFaults, StandsBefore, fault_of}
use Rattle.ados_model.specs.declared.fault.FaultKind.{FaultKind}
use Rattle.ados_model.specs.declared.fault.VolumeFault.{VolumeFault}
use Rattle.ados_model.specs.Faults.{Shows, root_of}
use Rattle.ados_census.specs.declared.place.PlaceKind.{PlaceKind}
use Rattle.ados_census.specs.declared.place.PlaceKind.TheVariants.{Entry, NextEntry, Extension, Data, Page}
use Rattle.ados_census.specs.declared.place.Place.{Place}
use Rattle.ados_census.specs.Places.{AreAllPlaces}
use Rattle.adf_archive.specs.Words.{kind_word}
use Rattle.adf_cli.specs.declared.block_word.BlockWord.{BlockWord}
use Rattle.adf_where.specs.declared.faulty.FaultyBlock.{FaultyBlock}
use Rattle.adf_where.specs.Refused.{fault_reason, refused_line}
use Rattle.adf_where.specs.Unread.{unread_of}
use Rattle.adf_where.specs.Where.{AreNamed, array_of, place_text, place_tokens, unread_line, unread_tokens}

-- these are all faults that an image shows, in order
pub record AreFound (image : List ℕ) (faults : List VolumeFault) : Type 0 where
  pub most : ℕ
  pub lists : ListsFaults image most faults
  pub all : ListsAll image faults

-- the image shows this fault at this block
pub record IsFaultAt (image : List ℕ) (block : ℕ) (fault : VolumeFault) : Type 0 where
  pub at : fault.block ≡ block
  pub shown : Shows image fault.kind fault.block

-- these are the faults that the image shows at the block, in order, each once
pub record AreFaultsAt (image : List ℕ) (block : ℕ) (faults : List VolumeFault) : Type 0 where
  pub in_order : AllPairs StandsBefore faults
  pub shown : All (IsFaultAt image block) faults
  pub all : (kind : FaultKind) → Shows image kind block → Contains faults (fault_of kind block)

-- a block of the image with all places that name it, with its faults, and with whether it could not be read
pub record IsFaultyBlock (image : List ℕ) (unread : List Bool) (block : ℕ) (told : FaultyBlock) : Type 0 where
  pub block_is : told.block ≡ block
  pub root : told.is_root ≡ (block == root_of image)
  pub places : AreAllPlaces image block told.places.now
  pub faults : AreFaultsAt image block told.faults.now
  pub unread_is : told.unread ≡ unread_of unread block

-- `of block N`
abbrev pub of_block : ℕ → List ℕ
of_block block = codes " of block " ++ decimal block

-- what a place makes of the block that it names, and of which block it is
abbrev pub kind_words : PlaceKind → Place → List ℕ
kind_words Entry place = codes "entry" ++ (of_block place.holder ++ (codes ", long " ++ decimal place.long))
kind_words NextEntry place = codes "next entry" ++ of_block place.holder
kind_words Extension place = codes "extension" ++ of_block place.holder
kind_words Data place = codes "data " ++ (decimal (FIRST_POINTER - place.long) ++ of_block place.holder)
kind_words Page place = codes "bitmap block " ++ (decimal (place.long - FIRST_PAGE) ++ of_block place.holder)

abbrev pub place_words : Place → List ℕ
place_words place = kind_words place.kind place

-- what is said of a block before its places: what it always is, or that nothing names it
abbrev pub first_words : FaultyBlock → Option (List ℕ)
first_words told =
    if nat_lt told.block BOOT_BLOCKS then Some (codes "boot block")
    else (if told.is_root then Some (codes "root") else (if length told.places.now == 0 then Some (codes "named by nothing") else None))

-- a line of a block
abbrev pub block_line : ℕ → ℕ → List ℕ → List ℕ
block_line blocks block words = place_text blocks block ++ (words ++ codes "\n")

abbrev pub first_line : ℕ → FaultyBlock → List ℕ
first_line blocks told = option_map_or (block_line blocks told.block) (first_words told) []

-- a line for each place
abbrev pub place_lines : ℕ → FaultyBlock → List ℕ
place_lines blocks told = flat_map (λ place. block_line blocks told.block (place_words place)) told.places.now

-- `BLOCK  fault KIND`
abbrev pub fault_line : VolumeFault → List ℕ
fault_line fault = decimal fault.block ++ (codes "  fault " ++ (kind_word fault.kind ++ codes "\n"))

-- the lines behind those of the places
abbrev pub behind_lines : FaultyBlock → List ℕ
behind_lines told = flat_map fault_line told.faults.now ++ unread_line told.unread told.block

-- the lines of a block
abbrev pub block_lines : ℕ → FaultyBlock → List ℕ
block_lines blocks told = first_line blocks told ++ (place_lines blocks told ++ behind_lines told)

-- what a place makes of the block that it names, as one word
abbrev pub place_word : PlaceKind → List ℕ
place_word Entry = codes "entry"
place_word NextEntry = codes "next"
place_word Extension = codes "extension"
place_word Data = codes "data"
place_word Page = codes "bitmap"

-- the object of a place
abbrev pub place_object : Place → List Token
place_object place =
    begin_object ∷ key (codes "block") ∷ number (decimal place.holder) ∷ key (codes "long") ∷ number (decimal place.long)
    ∷ key (codes "role") ∷ string (place_word place.kind) ∷ end_object ∷ []

-- a fault, as one word
abbrev pub fault_word : VolumeFault → List Token
fault_word fault = string (kind_word fault.kind) ∷ []

-- the members for the places and for the faults of a block
abbrev pub places_tokens : List Place → List Token
places_tokens places = key (codes "places") ∷ array_of place_object places

abbrev pub faults_tokens : List VolumeFault → List Token
faults_tokens faults = key (codes "faults") ∷ array_of fault_word faults

-- the object of a block. All of its faults are in the list, so there are no more
abbrev pub faulty_tokens : ℕ → FaultyBlock → List Token
faulty_tokens blocks told =
    begin_object ∷ place_tokens blocks told.block ++ (places_tokens told.places.now ++ (faults_tokens told.faults.now ++ key (codes "more") ∷ boolean false ∷ (unread_tokens told.unread ++ end_object ∷ [])))

-- the object of a refused image: why it is refused, and what is told of blocks
abbrev pub faulty_object : List ℕ → ℕ → ℕ → List FaultyBlock → List Token
faulty_object kind at blocks told =
    begin_object ∷ key (codes "refused") ∷ fault_reason kind at ++ (key (codes "blocks") ∷ array_of (faulty_tokens blocks) told ++ end_object ∷ [])

-- what is told of blocks of an image that is refused with this word for the fault of a block: that object on a line of its own, or the
-- line of the refusal and then the lines of each block
abbrev pub faulty_of : Bool → List ℕ → ℕ → ℕ → List FaultyBlock → List ℕ
faulty_of json kind at blocks told =
    if json then print (faulty_object kind at blocks told) ++ codes "\n" else refused_line kind at ++ flat_map (block_lines blocks) told

-- the text tells of the blocks that these arguments name in the image, which is refused with this word for the fault of a block; some
-- could not be read
pub record IsFaultyWhere (json : Bool) (unread : List Bool) (image kind : List ℕ) (at : ℕ) (words : List BlockWord) (text : List ℕ) : Type 0 where
  pub blocks : List ℕ
  pub named : AreNamed (block_count image) words blocks
  pub told : List FaultyBlock
  pub are_told : AllZip (IsFaultyBlock image unread) blocks told
  pub text_is : text ≡ faulty_of json kind at (block_count image) told
