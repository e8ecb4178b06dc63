-- The text that is told of blocks, in parts.
use Rattle.std.specs.Prelude.{◌≡◌, ℕ, Bool, false, if◌then◌else◌, List, [], ◌∷◌, ◌++◌, flat_map, codes}
use Rattle.json.specs.Token.{Token, begin_array, begin_object, boolean, end_array, end_object, key}
use Rattle.json.specs.Print.{print}
use Rattle.ados_census.specs.declared.place.Place.{Place}
use Rattle.ados_model.specs.Tree.{Tree}
use Rattle.ados_volume.specs.declared.owner.Owner.{Owner}
use Rattle.adf_io.specs.declared.printing.PrintFault.{PrintFault}
use Rattle.adf_io.specs.declared.printing.PrintFault.TheVariants.{Write}
use Rattle.adf_where.specs.declared.faulty.FaultyBlock.{FaultyBlock}
use Rattle.adf_where.specs.declared.where_fault.WhereFault.{WhereFault}
use Rattle.adf_where.specs.declared.where_fault.WhereFault.TheVariants.{Memory, Output}
use Rattle.adf_where.specs.Faulty.{behind_lines, block_line, block_lines, faults_tokens, faulty_tokens, first_line, place_object, place_words}
use Rattle.adf_where.specs.Refused.{fault_reason, refused_line}
use Rattle.adf_where.specs.Where.{AreTold, Told, array_of, place_tokens, unread_tokens, where_of}

-- what is before the elements, and what is behind them
abbrev pub opening : Bool → List ℕ
opening json = if json then codes "[" else []

abbrev pub closing : Bool → List ℕ
closing json = if json then codes "]\n" else []

-- what is before an element: in an array a comma, unless it is the first
abbrev pub comma : Bool → Bool → List ℕ
comma json first = if json then (if first then [] else codes ",") else []

-- what is told of an element in one of the forms
abbrev pub element : {A : Type 0} → Bool → (A → List Token) → (A → List ℕ) → A → List ℕ
element json tokens lines one = if json then print (tokens one) else lines one

-- the same with what is before it
abbrev pub part : {A : Type 0} → Bool → Bool → (A → List Token) → (A → List ℕ) → A → List ℕ
part json first tokens lines one = comma json first ++ element json tokens lines one

-- the text tells of these blocks, by the owners of all blocks
pub record IsTextOf (json : Bool) (unread : List Bool) (t : Tree) (owners : List Owner) (blocks text : List ℕ) : Type 0 where
  pub told : List Told
  pub are_told : AreTold t unread owners blocks told
  pub text_is : text ≡ where_of json t.blocks told

-- the object of something that is refused, up to the reason
abbrev pub before_reason : List Token
before_reason = begin_object ∷ key (codes "refused") ∷ []

-- what is before the lines of blocks of a refused image, or before the array of its object
abbrev pub before_blocks : List ℕ → ℕ → List Token
before_blocks kind at = before_reason ++ fault_reason kind at ++ key (codes "blocks") ∷ []

abbrev pub refused_front : Bool → List ℕ → ℕ → List ℕ
refused_front json kind at = if json then print (before_blocks kind at) else refused_line kind at

-- what is told of its blocks behind that
abbrev pub blocks_text : Bool → ℕ → List FaultyBlock → List ℕ
blocks_text json blocks told =
    if json then print (array_of (faulty_tokens blocks) told) ++ codes "}\n" else flat_map (block_lines blocks) told

-- the end of the array, of the object, and of its line
abbrev pub object_end : Bool → List ℕ
object_end json = if json then codes "]}\n" else []

-- what is told of a block of a refused image
abbrev pub block_part : Bool → ℕ → FaultyBlock → List ℕ
block_part json blocks told = element json (faulty_tokens blocks) (block_lines blocks) told

-- what is told of it before its places
abbrev pub head_tokens : ℕ → ℕ → List Token
head_tokens blocks block = begin_object ∷ place_tokens blocks block ++ key (codes "places") ∷ begin_array ∷ []

abbrev pub head_part : Bool → ℕ → FaultyBlock → List ℕ
head_part json blocks told = if json then print (head_tokens blocks told.block) else first_line blocks told

-- what is told of one of its places
abbrev pub place_part : Bool → Bool → ℕ → ℕ → Place → List ℕ
place_part json first blocks block place = part json first place_object (λ one. block_line blocks block (place_words one)) place

-- what is told of it behind its places
abbrev pub tail_tokens : FaultyBlock → List Token
tail_tokens told =
    end_array ∷ faults_tokens told.faults.now ++ key (codes "more") ∷ boolean false ∷ (unread_tokens told.unread ++ end_object ∷ [])

abbrev pub tail_part : Bool → FaultyBlock → List ℕ
tail_part json told = if json then print (tail_tokens told) else behind_lines told

-- why a text is not written whole
abbrev pub where_fault : PrintFault → WhereFault
where_fault Write = Output
where_fault want = Memory
