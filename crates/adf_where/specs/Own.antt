-- The blocks of a file or directory.
use Rattle.std.specs.Prelude.{◌≡◌, ℕ, ◌+◌, ◌==◌, Bool, false, if◌then◌else◌, List, [], ◌∷◌, ◌++◌, codes, decimal}
use Rattle.json.specs.Token.{Token, begin_object, end_object, key, number}
use Rattle.json.specs.Print.{print}
use Rattle.ados_model.specs.Tree.{Tree}
use Rattle.ados_volume.specs.declared.owner.Owner.{Owner}
use Rattle.ados_volume.specs.declared.owner.Owner.TheVariants.{Root, Directory, File, Data, Extension}
use Rattle.ados_volume.specs.Owners.{AreOwners}
use Rattle.adf_text.specs.Ranges.{ranges}
use Rattle.adf_where.specs.Where.{array_of}

-- a block with this owner belongs to the file or directory with this key; the root is its own
abbrev pub belongs : ℕ → ℕ → Owner → Bool
belongs entry block Root = block == entry
belongs entry block Directory = block == entry
belongs entry block File = block == entry
belongs entry block (Data file k) = file == entry
belongs entry block (Extension file k) = file == entry
belongs entry block owner = false

-- the blocks of a file or directory, in order: those from this block on
abbrev pub own_from : ℕ → ℕ → List Owner → List ℕ
own_from entry block [] = []
own_from entry block (owner ∷ owners) = (if belongs entry block owner then block ∷ [] else []) ++ own_from entry (block + 1) owners

-- the number of a block
abbrev pub block_number : ℕ → List Token
block_number block = number (decimal block) ∷ []

-- the object of these blocks
abbrev pub own_tokens : List ℕ → List Token
own_tokens blocks = begin_object ∷ key (codes "blocks") ∷ array_of block_number blocks ++ end_object ∷ []

-- these blocks in one of the forms: an object on a line of its own, or ranges
abbrev pub own_text : Bool → List ℕ → List ℕ
own_text json blocks = if json then print (own_tokens blocks) ++ codes "\n" else ranges blocks

-- the text is all blocks of a file or directory, in one of the forms
abbrev pub IsWhereOf : Bool → List ℕ → Tree → ℕ → List ℕ → Type 0
IsWhereOf json image t entry text = (owners : List Owner) × AreOwners image t owners × (text ≡ own_text json (own_from entry 0 owners))
