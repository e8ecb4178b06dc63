-- Marks of the blocks that are accounted for.
use Rattle.std.specs.Prelude.{◌≡◌, ◌⊎◌, ℕ, ◌<◌, Bool, MatchBool, true, false, List, length, Option, Some, None}
use Rattle.adf_block.specs.Fields.{parent_key}
use Rattle.adf_block.specs.Image.{block_count}
use Rattle.ados_salvage.specs.declared.giving.Piece.{Piece}
use Rattle.ados_salvage.specs.declared.salvaged.Salvaged.{Salvaged}
use Rattle.ados_salvage.specs.declared.salvaged.State.{State}
use Rattle.ados_salvage.specs.declared.salvaged.State.TheVariants as states
use Rattle.ados_salvage.specs.Salvaged.{Saved}
use Rattle.ados_salvage.specs.Sound.{Names}
use Rattle.ados_salvage.specs.Marks.{mark_at}
use Rattle.ados_census.specs.steps.Marks.{IsMarked}
use Rattle.std.specs.BTreeSet.{BTreeSet, contains}
use Rattle.std.specs.Ordering.{nat_cmp}
use Rattle.ados_salvage.specs.Account.{HasExtensionBlock, IsAccounted, IsDamagedFile, IsNextExtension}
use Rattle.ados_salvage.specs.Loose.{IsLooseExtension}

-- the reached blocks of an image are needed, unless its bitmap is trusted
abbrev pub needed : Bool → List ℕ → Option (List ℕ)
needed true image = None
needed false image = Some image

-- there is a mark for each block of the image, and no block is marked
pub record HasNoMarks (image : List ℕ) (marks : List Bool) : Type 0 where
  pub size : length marks ≡ block_count image
  pub none : (block : ℕ) → ¬ IsMarked marks block

-- for each block of the image, whether it is accounted for
pub record AreAccounted (saved : Saved) (marks : List Bool) : Type 0 where
  pub size : length marks ≡ block_count saved.image
  pub decided : (block : ℕ) → block < block_count saved.image → MatchBool (mark_at marks block) (IsAccounted saved block) (¬ IsAccounted saved block)

-- exactly the blocks with a property were marked beside those that were marked before
pub record Adds (P : ℕ → Type 0) (old new : List Bool) : Type 0 where
  pub size : length new ≡ length old
  pub kept : (block : ℕ) → IsMarked old block → IsMarked new block
  pub added : (block : ℕ) → block < length old → P block → IsMarked new block
  pub only : (block : ℕ) → IsMarked new block → IsMarked old block ⊎ P block

-- the block was given
abbrev pub IsPieceBlock : Piece → ℕ → Type 0
IsPieceBlock piece block = block ≡ piece.block

-- the block is the header of the entry, or any block of a whole file
abbrev pub IsOwnIn : List ℕ → ℕ → State → ℕ → Type 0
IsOwnIn image header states.Whole block = Names image header block
IsOwnIn image header state block = block ≡ header

abbrev pub IsOwn : List ℕ → Salvaged → ℕ → Type 0
IsOwn image entry block = IsOwnIn image entry.header entry.state block

-- the extension block after this one of the file, if there is one, is marked
abbrev pub AreMarkedAfter : List ℕ → List Bool → ℕ → ℕ → Type 0
AreMarkedAfter image marks file holder = (block : ℕ) → IsNextExtension image file holder block → IsMarked marks block

-- there is a mark for each block of the image, and after a marked extension block the next one of its file is marked too
pub record AreClosed (image : List ℕ) (marks : List Bool) : Type 0 where
  pub size : length marks ≡ block_count image
  pub next : (holder : ℕ) → IsMarked marks holder → AreMarkedAfter image marks (parent_key image holder) holder

-- the block is the extension block after this one of the file, and is not marked
pub record IsNewAfter (image : List ℕ) (marks : List Bool) (file holder block : ℕ) : Type 0 where
  pub next : IsNextExtension image file holder block
  pub free : mark_at marks block ≡ false

-- an extension block of an entry that is a file and not whole: by links, or by itself
abbrev pub IsLinkedOf : List ℕ → Salvaged → ℕ → Type 0
IsLinkedOf image entry block = IsDamagedFile entry.state × HasExtensionBlock image entry.header block

abbrev pub IsLooseOf : List ℕ → Salvaged → ℕ → Type 0
IsLooseOf image entry block = IsDamagedFile entry.state × IsLooseExtension image entry.header block

-- the header of an entry that is a file and not whole
abbrev pub IsDamagedHeader : Salvaged → ℕ → Type 0
IsDamagedHeader entry header = IsDamagedFile entry.state × (header ≡ entry.header)

-- the set has exactly the numbers with a property
pub record HasExactly (P : ℕ → Type 0) (numbers : BTreeSet ℕ) : Type 0 where
  pub only : (n : ℕ) → contains nat_cmp numbers n ≡ true → P n
  pub all : (n : ℕ) → P n → contains nat_cmp numbers n ≡ true

-- an extension block that names one of these headers, by itself
abbrev pub IsLooseOfAny : List ℕ → BTreeSet ℕ → ℕ → Type 0
IsLooseOfAny image headers block = (header : ℕ) × (contains nat_cmp headers header ≡ true) × IsLooseExtension image header block
