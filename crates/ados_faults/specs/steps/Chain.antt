-- The progress along the links of a file's header and extension blocks; and the data blocks in their pointers.
use Rattle.std.specs.Prelude.{◌≡◌, ℕ, ◌+◌, ◌^◌, ◌<◌, ◌≤◌, List, Option, Some, length, slice_get, slice_index, nat_lt, if◌then◌else◌, All}
use Rattle.adf_block.specs.declared.layout.TheConstants.{NEXT_EXTENSION, TABLE_LONGS}
use Rattle.ados_model.specs.Faults.{AreDataBlocks, AreDistinct, FurtherAreInside, InImage, IsFile, LeadOn, LinkedOnce, pointers_of}
use Rattle.ados_faults.specs.declared.pieces.Piece.{Piece}

-- the first blocks along the links, each once
pub record IsChain (image : List ℕ) (link : ℕ) (blocks : List ℕ) : Type 0 where
  pub not_empty : 0 < length blocks
  pub linked : LeadOn image link blocks
  pub further : FurtherAreInside image blocks
  pub once : AreDistinct blocks
  pub inside : All (InImage image) blocks

-- the header and extension blocks of a file
pub record AreHeaders (image : List ℕ) (headers : List ℕ) : Type 0 where
  pub file : ℕ
  pub is_file : IsFile image file
  pub linked : LinkedOnce image NEXT_EXTENSION file headers

-- the data blocks in the pointers of a block stand at their places in a file
pub record IsPiece (image : List ℕ) (piece : Piece) : Type 0 where
  pub inside : InImage image piece.header
  pub count : piece.count ≡ length (pointers_of image piece.header)
  pub few : piece.count ≤ TABLE_LONGS
  pub low : piece.position + piece.count < 2 ^ 62
  pub file : ℕ
  pub blocks : List ℕ
  pub of_file : AreDataBlocks image file blocks
  pub within : piece.position + piece.count ≤ length blocks
  pub there : (i : ℕ) → i < piece.count → slice_index blocks (piece.position + i) ≡ slice_index (pointers_of image piece.header) i
  pub next : slice_get blocks (piece.position + piece.count) ≡ piece.next

-- the data block after number i of a piece
abbrev pub next_in : List ℕ → Piece → ℕ → Option ℕ
next_in image piece i = if nat_lt (i + 1) piece.count then Some (slice_index (pointers_of image piece.header) (i + 1)) else piece.next

-- the first data block of a piece, or the one after it if it has none
abbrev pub first_in : List ℕ → Piece → Option ℕ
first_in image piece = if nat_lt 0 piece.count then Some (slice_index (pointers_of image piece.header) 0) else piece.next
