-- Who owns a block, and the blocks of an entry.
use Rattle.std.specs.Prelude.{◌≡◌, ⊤, ℕ, ◌+◌, ◌*◌, ◌-◌, ◌/◌, ◌%◌, ◌⊎◌, nat_lt, min, Bool, true, false, if◌then◌else◌, List, [], ◌∷◌, ◌++◌, flat_map, length, map, take, slice_get, codes, decimal, Option, Some, None, option_map}
use Rattle.std.specs.Option.{option_map_or}
use Rattle.std.specs.String.{string_bytes}
use Rattle.json.specs.Token.{Token, begin_array, begin_object, boolean, end_array, end_object, key, number, string}
use Rattle.json.specs.Print.{print}
use Rattle.ados_model.specs.Tree.{Tree, data_size, size_of}
use Rattle.ados_volume.specs.declared.owner.Owner.{Owner}
use Rattle.ados_volume.specs.declared.owner.Owner.TheVariants.{Data}
use Rattle.ados_volume.specs.Owners.{AreOwners}
use Rattle.adf_text.specs.Letters.{letters}
use Rattle.adf_text.specs.Plain.{plain}
use Rattle.adf_cli.specs.declared.block_word.BlockWord.{BlockWord}
use Rattle.adf_cli.specs.Blocks.{named, track}
use Rattle.adf_cli.specs.declared.floppy.TheConstants.{HEADS}
use Rattle.adf_record.specs.Members.{number_token, string_token}
use Rattle.adf_archive.specs.Owned.{entry_of, owner_text, owner_word, position_of, slash}
use Rattle.adf_where.specs.declared.owned.OwnedBlock.{OwnedBlock}
use Rattle.adf_where.specs.declared.short_path.TheConstants.{LONGEST_PATH}
use Rattle.adf_where.specs.declared.owned.Span.{Span}
use Rattle.adf_where.specs.declared.where_fault.WhereFault.{WhereFault}
use Rattle.adf_where.specs.declared.where_fault.WhereFault.TheVariants.{NoBlock}
use Rattle.adf_io.specs.Prefix.{WritesFrontOf}
use Rattle.std.specs.Io.KnownBytes.{Keeps}
use Rattle.adf_export.specs.Listing.{path_of}
use Rattle.adf_where.specs.Unread.{unread_of}

-- these arguments name these blocks
abbrev pub AreNamed : ℕ → List BlockWord → List ℕ → Type 0
AreNamed blocks words found = map (named blocks) words ≡ map Some found

-- the argument is the first that names no block; or memory ran out, or the writer failed
abbrev pub IsWhereFault : ℕ → List BlockWord → WhereFault → Type 0
IsWhereFault blocks words (NoBlock word) =
    (n : ℕ) × (before : List ℕ) × (slice_get words n ≡ Some word) × (named blocks word ≡ None) × AreNamed blocks (take n words) before
IsWhereFault blocks words fault = ⊤

-- a path in letters, if it is not too long
abbrev pub short_path : List ℕ → Option (List ℕ)
short_path path = if nat_lt LONGEST_PATH (length path) then None else Some (letters path)

-- the path of an entry in letters, if it is not too long
abbrev pub entry_path : Tree → Option ℕ → Option (List ℕ)
entry_path t None = None
entry_path t (Some entry) = short_path (path_of t entry)

-- the bytes of its file that are in a data block
abbrev pub span_of : Tree → Owner → Option Span
span_of t (Data file k) =
    Some (record { first = data_size t.format * k; last = min (data_size t.format * k + data_size t.format) (size_of t file) - 1 })
span_of t owner = None

-- what is told of a block
pub record Told : Type 0 where
  pub block : ℕ
  pub owner : Owner
  pub path : Option (List ℕ)
  pub span : Option Span
  pub unread : Option Bool

-- what is told of a block with this owner; some blocks could not be read
abbrev pub told_of : Tree → List Bool → ℕ → Owner → Told
told_of t unread block owner = record {
  block = block;
  owner = owner;
  path = entry_path t (entry_of block owner);
  span = span_of t owner;
  unread = unread_of unread block;
}

-- what is told of a block, by the owners of all blocks
abbrev pub told_at : Tree → List Bool → List Owner → ℕ → Option Told
told_at t unread owners block = option_map (told_of t unread block) (slice_get owners block)

-- this is told of these blocks
abbrev pub AreTold : Tree → List Bool → List Owner → List ℕ → List Told → Type 0
AreTold t unread owners blocks told = map (told_at t unread owners) blocks ≡ map Some told

-- a block with its owner in memory, as what is told of it
abbrev pub seen : OwnedBlock → Told
seen owned =
    record { block = owned.block; owner = owned.owner; path = option_map string_bytes owned.path; span = owned.span; unread = owned.unread }

-- the place of a block on a disk with so many blocks: its cylinder, its head and its sector, each from 0
abbrev pub cylinder_of : ℕ → ℕ → ℕ
cylinder_of blocks block = block / (HEADS * track blocks)

abbrev pub head_of : ℕ → ℕ → ℕ
head_of blocks block = block / track blocks % HEADS

abbrev pub sector_of : ℕ → ℕ → ℕ
sector_of blocks block = block % track blocks

-- the line of a block up to its owner
abbrev pub place_text : ℕ → ℕ → List ℕ
place_text blocks block =
    decimal block ++ (codes "  cyl " ++ (decimal (cylinder_of blocks block) ++ (codes " head " ++ (decimal (head_of blocks block)
    ++ (codes " sector " ++ (decimal (sector_of blocks block) ++ codes "  "))))))

-- an entry by its header block
abbrev pub header_text : ℕ → List ℕ
header_text entry = codes "the entry at block " ++ decimal entry

-- the path of the entry that the block belongs to, with escapes for control characters, and a slash behind that of a
-- directory; if the path is too long, the header block; nothing for other blocks
abbrev pub path_text : ℕ → Owner → Option (List ℕ) → List ℕ
path_text block owner (Some path) = plain false path ++ slash owner
path_text block owner None = option_map_or header_text (entry_of block owner) []

-- the bytes in a data block
abbrev pub bytes_text : Span → List ℕ
bytes_text span = codes ", bytes " ++ (decimal span.first ++ (codes " to " ++ decimal span.last))

abbrev pub span_text : Option Span → List ℕ
span_text span = option_map_or bytes_text span []

-- `BLOCK  unread`, if the block could not be read
abbrev pub unread_line : Option Bool → ℕ → List ℕ
unread_line (Some true) block = decimal block ++ codes "  unread\n"
unread_line unread block = []

-- the line of a block, and that of one that could not be read
abbrev pub where_line : ℕ → Told → List ℕ
where_line blocks told =
    place_text blocks told.block ++ owner_text told.owner ++ path_text told.block told.owner told.path ++ span_text told.span ++ codes "\n"
    ++ unread_line told.unread told.block

-- the members for the place of a block
abbrev pub place_tokens : ℕ → ℕ → List Token
place_tokens blocks block =
    key (codes "block") ∷ number (decimal block) ∷ key (codes "cylinder") ∷ number (decimal (cylinder_of blocks block))
    ∷ key (codes "head") ∷ number (decimal (head_of blocks block)) ∷ key (codes "sector") ∷ number (decimal (sector_of blocks block)) ∷ []

-- the members for its owner
abbrev pub owner_tokens : Told → List Token
owner_tokens told =
    key (codes "owner") ∷ string (owner_word told.owner) ∷ key (codes "path") ∷ string_token told.path
    ∷ key (codes "number") ∷ number_token (position_of told.owner)
    ∷ key (codes "first") ∷ number_token (option_map (λ span. span.first) told.span)
    ∷ key (codes "last") ∷ number_token (option_map (λ span. span.last) told.span) ∷ []

-- whether it could not be read, if that is asked
abbrev pub unread_tokens : Option Bool → List Token
unread_tokens (Some unread) = key (codes "unread") ∷ boolean unread ∷ []
unread_tokens None = []

-- the object of a block
abbrev pub told_tokens : ℕ → Told → List Token
told_tokens blocks told = begin_object ∷ place_tokens blocks told.block ++ owner_tokens told ++ unread_tokens told.unread ++ end_object ∷ []

-- an array of these elements
abbrev pub array_of : {A : Type 0} → (A → List Token) → List A → List Token
array_of tokens elements = begin_array ∷ flat_map tokens elements ++ end_array ∷ []

-- what is told of blocks in one of the forms: an array on a line of its own, or the lines of each block
abbrev pub told_as : {A : Type 0} → Bool → (A → List Token) → (A → List ℕ) → List A → List ℕ
told_as json tokens lines told = if json then print (array_of tokens told) ++ codes "\n" else flat_map lines told

abbrev pub where_of : Bool → ℕ → List Told → List ℕ
where_of json blocks told = told_as json (told_tokens blocks) (where_line blocks) told

-- the text tells of the blocks that these arguments name in the volume with this image and this tree; some could not be read
pub record IsWhere (json : Bool) (unread : List Bool) (image : List ℕ) (t : Tree) (words : List BlockWord) (text : List ℕ) : Type 0 where
  pub blocks : List ℕ
  pub named : AreNamed t.blocks words blocks
  pub owners : List Owner
  pub owned : AreOwners image t owners
  pub told : List Told
  pub are_told : AreTold t unread owners blocks told
  pub text_is : text ≡ where_of json t.blocks told

-- nothing is written if an argument names no block; otherwise nothing, or a prefix of such a text
abbrev pub LeavesWhere : (IsText : List ℕ → Type 0) → Option (List ℕ) → Option (List ℕ) → WhereFault → Type 0
LeavesWhere IsText old new (NoBlock word) = Keeps old new
LeavesWhere IsText old new fault = Keeps old new ⊎ WritesFrontOf old new IsText
