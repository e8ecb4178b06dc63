-- The bytes of the files of a salvage.
use Rattle.std.specs.Prelude.{◌≡◌, ℕ, ◌<◌, ◌⊎◌, List, [], length, Contains, slice_index, slice_index_or}
use Rattle.adf_block.specs.Image.{byte_at}
use Rattle.adf_block.specs.declared.layout.TheConstants.{BLOCK_BYTES}
use Rattle.adf_block.specs.Fields.{file_size}
use Rattle.ados_model.specs.File.{contents}
use Rattle.ados_salvage.specs.declared.giving.Piece.{Piece}
use Rattle.ados_salvage.specs.declared.salvaged.Salvaged.{Salvaged}
use Rattle.ados_salvage.specs.declared.salvaged.State.{State}
use Rattle.ados_salvage.specs.declared.salvaged.State.TheVariants as states

-- a byte of the block
abbrev pub IsByteOf : List ℕ → ℕ → ℕ → Type 0
IsByteOf image block byte = (at : ℕ) × (at < BLOCK_BYTES) × (byte ≡ byte_at image block at)

-- the byte is 0, or one of a block that was given to the file at this position
abbrev pub IsOfGiven : List ℕ → List Piece → ℕ → ℕ → Type 0
IsOfGiven image given place byte = (byte ≡ 0) ⊎ ((piece : Piece) × Contains given piece × (piece.place ≡ place) × IsByteOf image piece.block byte)

-- so many bytes, each 0 or of a block that was given to the file
pub record IsPieced (image : List ℕ) (given : List Piece) (place count : ℕ) (bytes : List ℕ) : Type 0 where
  pub size : length bytes ≡ count
  pub parts : (k : ℕ) → k < count → IsOfGiven image given place (slice_index bytes k)

-- the number of bytes of an entry
abbrev pub size_of : List ℕ → ℕ → State → ℕ
size_of image header states.Directory = 0
size_of image header states.DoubtfulDirectory = 0
size_of image header states.Lost = 0
size_of image header states.Whole = file_size image header
size_of image header (states.Doubtful heading length) = length
size_of image header (states.Broken missing cut length) = length

-- the bytes of an entry: all those of a whole file, and those of the blocks given to one that is not whole
abbrev pub HasBytes : List ℕ → List Piece → ℕ → ℕ → State → List ℕ → Type 0
HasBytes image given place header states.Directory bytes = bytes ≡ []
HasBytes image given place header states.DoubtfulDirectory bytes = bytes ≡ []
HasBytes image given place header states.Lost bytes = bytes ≡ []
HasBytes image given place header states.Whole bytes = bytes ≡ contents image header
HasBytes image given place header (states.Doubtful heading length) bytes = IsPieced image given place length bytes
HasBytes image given place header (states.Broken missing cut length) bytes = IsPieced image given place length bytes

-- the entry is at this position
abbrev pub IsAt : List Salvaged → ℕ → Salvaged → Type 0
IsAt entries place entry = slice_index_or entries place entry ≡ entry
