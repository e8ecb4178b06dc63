-- The account of an image: which of its used blocks belong to nothing that a salvage tells.
use Rattle.std.specs.Prelude.{◌≡◌, ◌≢◌, ◌⊎◌, ℕ, ◌<◌, Bool, true, false, List, All, AllPairs, Contains, ⊤}
use Rattle.adf_block.specs.declared.layout.TheConstants.{BLOCK_BYTES, NEXT_EXTENSION}
use Rattle.adf_block.specs.Image.{byte_at, long}
use Rattle.adf_block.specs.Whole.{HasFreeBit}
use Rattle.ados_salvage.specs.declared.giving.Piece.{Piece}
use Rattle.ados_salvage.specs.declared.salvaged.Salvaged.{Salvaged}
use Rattle.ados_salvage.specs.declared.salvaged.State.{State}
use Rattle.ados_salvage.specs.declared.salvaged.State.TheVariants as states
use Rattle.ados_salvage.specs.Doubtful.{LooksLikeExtension}
use Rattle.ados_salvage.specs.Loose.{IsLooseExtension}
use Rattle.ados_salvage.specs.Salvaged.{Saved}
use Rattle.ados_salvage.specs.Marks.{IsHole}
use Rattle.ados_salvage.specs.Sound.{Names}
use Rattle.ados_model.specs.Faults.{InImage, root_of}
use Rattle.ados_map.specs.Pages.{IsPage}
use Rattle.ados_census.specs.Reached.{IsReached}

-- the holder names the block as the next extension block, and the block looks like one of this file; its checksum may be wrong
pub record IsNextExtension (image : List ℕ) (file holder block : ℕ) : Type 0 where
  pub named : long image holder NEXT_EXTENSION ≡ block
  pub inside : InImage image block
  pub looks : LooksLikeExtension image file block

-- the extension blocks of a file, whatever their checksums are: the one that its header names, and each that one of them names
pub data HasExtensionBlock (image : List ℕ) (file : ℕ) : ℕ → Type 0 where
  first : {block : ℕ} → InImage image file → IsNextExtension image file file block → HasExtensionBlock image file block
  further : {holder block : ℕ} → HasExtensionBlock image file holder → IsNextExtension image file holder block → HasExtensionBlock image file block

-- an extension block of a file that is not whole: links lead to it; or it is one of FFS with a right checksum, whatever names it
abbrev pub IsExtensionOf : List ℕ → ℕ → ℕ → Type 0
IsExtensionOf image file block = HasExtensionBlock image file block ⊎ IsLooseExtension image file block

-- the block belongs to the entry with this header and this state: it is the header; a whole file has also all other blocks that it names, and
-- a file that is not whole has also its extension blocks
abbrev pub BelongsTo : List ℕ → ℕ → State → ℕ → Type 0
BelongsTo image header states.Whole block = Names image header block
BelongsTo image header (states.Doubtful heading length) block = (block ≡ header) ⊎ IsExtensionOf image header block
BelongsTo image header (states.Broken missing cut length) block = (block ≡ header) ⊎ IsExtensionOf image header block
BelongsTo image header state block = block ≡ header

-- the block has the property for one of these
pub record OfOne {X : Type 0} (P : X → ℕ → Type 0) (xs : List X) (block : ℕ) : Type 0 where
  pub one : X
  pub listed : Contains xs one
  pub has : P one block

-- the state of a file that is not whole
abbrev pub IsDamagedFile : State → Type 0
IsDamagedFile (states.Doubtful heading length) = ⊤
IsDamagedFile (states.Broken missing cut length) = ⊤
IsDamagedFile state = ⊥

-- an extension block of an entry that is a file and not whole
abbrev pub IsOfDamaged : List ℕ → Salvaged → ℕ → Type 0
IsOfDamaged image entry block = IsDamagedFile entry.state × IsExtensionOf image entry.header block

-- a block that is accounted for: the root, a bitmap block, a block of an entry, or one that was given to a file that is not whole
pub data IsAccounted (saved : Saved) (block : ℕ) : Type 0 where
  of_root : block ≡ root_of saved.image → IsAccounted saved block
  of_bitmap : IsPage saved.image block → IsAccounted saved block
  of_entry : {entry : Salvaged} → Contains saved.entries entry → BelongsTo saved.image entry.header entry.state block → IsAccounted saved block
  of_piece : {piece : Piece} → Contains saved.given piece → block ≡ piece.block → IsAccounted saved block

-- a byte of the block is not 0
abbrev pub HasContent : List ℕ → ℕ → Type 0
HasContent image block = (at : ℕ) × (at < BLOCK_BYTES) × (byte_at image block at ≢ 0)

-- the block counts as used: a trusted bitmap does not mark it free; or without one it is not all zeros, or it is reached
abbrev pub CountsAsUsed : List ℕ → Bool → ℕ → Type 0
CountsAsUsed image true block = ¬ HasFreeBit image block
CountsAsUsed image false block = HasContent image block ⊎ IsReached image block

-- a block of the volume that is used and not accounted for; a hole is none
pub record IsUnaccounted (saved : Saved) (block : ℕ) : Type 0 where
  pub inside : InImage saved.image block
  pub used : CountsAsUsed saved.image saved.trusted block
  pub left : ¬ IsAccounted saved block
  pub there : ¬ IsHole saved.holes block

-- the blocks are exactly those that are used and not accounted for, in order, each once. A bitmap that the check wrote anew is not trusted: it
-- marks only reached blocks used
pub record AreUnaccounted (saved : Saved) (blocks : List ℕ) : Type 0 where
  pub in_order : AllPairs (λ a b. a < b) blocks
  pub unaccounted : All (IsUnaccounted saved) blocks
  pub all : (block : ℕ) → IsUnaccounted saved block → Contains blocks block
