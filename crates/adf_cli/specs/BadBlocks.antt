-- Lists of blocks that could not be read.
use Rattle.std.specs.Prelude.{◌≡◌, ◌≢◌, ◌↔◌, ⊤, ℕ, suc, ◌<◌, ◌⊎◌, Bool, true, false, List, [], ◌∷◌, ◌++◌, length, Contains, slice_get, slice_index_or, Some, None}
use Rattle.std.specs.Str.{IsTrimAscii}
use Rattle.adf_script.specs.Pieces.{IsSplit, has_byte}
use Rattle.adf_text.specs.Letters.{letters}
use Rattle.adf_cli.specs.Blocks.{IsNamed, NamesNone, named}
use Rattle.adf_cli.specs.declared.block_word.BlockWord.{BlockWord}
use Rattle.adf_cli.specs.declared.bad_list.BadFault.{BadFault}
use Rattle.adf_cli.specs.declared.bad_list.BadFault.TheVariants.{Line, Memory}

-- what a line has before a comment, which begins with `#`
abbrev pub IsBeforeComment : List ℕ → List ℕ → Type 0
IsBeforeComment line front = ((has_byte 35 line ≡ false) × (front ≡ line)) ⊎ ((rest : List ℕ) × IsSplit 35 line front rest)

-- what a line says, in letters: without a comment, and without spaces at both ends
abbrev pub Says : List ℕ → List ℕ → Type 0
Says line word = (front : List ℕ) × IsBeforeComment line front × ((said : List ℕ) × IsTrimAscii front said × (word ≡ letters said))

-- the line names this block of a volume with so many blocks
abbrev pub NamesBlock : ℕ → List ℕ → ℕ → Type 0
NamesBlock blocks line block = (text : List ℕ) × Says line text × ((word : BlockWord) × IsNamed text word × (named blocks word ≡ Some block))

-- it says something that names none
abbrev pub NamesNoBlock : ℕ → List ℕ → Type 0
NamesNoBlock blocks line = (text : List ℕ) × Says line text × (text ≢ []) × (NamesNone text ⊎ ((word : BlockWord) × IsNamed text word × (named blocks word ≡ None)))

-- the line adds the block that it names to these, or none if it says nothing
abbrev pub Adds : ℕ → List ℕ → List ℕ → List ℕ → Type 0
Adds blocks line old new = (Says line [] × (new ≡ old)) ⊎ ((block : ℕ) × NamesBlock blocks line block × (new ≡ old ++ block ∷ []))

-- these lines name these blocks, one after the other
pub data AreBad (blocks : ℕ) : List (List ℕ) → List ℕ → Type 0 where
  none : AreBad blocks [] []
  more : (lines : List (List ℕ)) (line old new : List ℕ) → AreBad blocks lines old → Adds blocks line old new → AreBad blocks (lines ++ line ∷ []) new

-- the block is marked, by the marks of the first blocks
abbrev pub IsMarked : List Bool → ℕ → Type 0
IsMarked marks block = slice_index_or marks block false ≡ true

-- there is a mark for each of so many blocks, and a block is marked exactly if it was before, or if it is one of these
pub record AreMarked (blocks : ℕ) (before : List Bool) (bad : List ℕ) (marks : List Bool) : Type 0 where
  pub count : length marks ≡ blocks
  pub marked : (block : ℕ) → block < blocks → IsMarked marks block ↔ (IsMarked before block ⊎ Contains bad block)

-- why a list is not taken: a line of it, counted from 1, names no block; or memory ran out
abbrev pub IsBadFault : ℕ → List (List ℕ) → BadFault → Type 0
IsBadFault blocks lines (Line number) = (line : List ℕ) × ((place : ℕ) × (number ≡ suc place) × (slice_get lines place ≡ Some line)) × NamesNoBlock blocks line
IsBadFault blocks lines Memory = ⊤
