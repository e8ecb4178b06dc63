-- An image written out block by block, each by its fields.
use Rattle.std.specs.Prelude.{ℕ, List, [], ◌∷◌, length, replicate, fold, flat_map}
use Rattle.std.specs.Int.{bytes_high_first}
use Rattle.adf_block.specs.declared.layout.TheConstants.{BLOCK_BYTES}
use Rattle.adf_block.specs.Frame.{long_byte}
use Rattle.ados_name.specs.declared.stamp.Date3.{Date3}
use Rattle.ados_model.specs.Edits.{overlaid}

-- a field of a block: a number in a long, a date from a long, bytes from a byte, or a text after its length
pub data Field : Type 0 where
  Long : ℕ → ℕ → Field
  Date : ℕ → Date3 → Field
  Bytes : ℕ → List ℕ → Field
  Text : ℕ → List ℕ → Field

-- a block with a field written into it
abbrev pub with_field : List ℕ → Field → List ℕ
with_field block (Long i number) = overlaid block (long_byte i) (bytes_high_first 4 number)
with_field block (Date i date) = overlaid block (long_byte i) (flat_map (bytes_high_first 4) (date.days ∷ date.minutes ∷ date.ticks ∷ []))
with_field block (Bytes i bytes) = overlaid block i bytes
with_field block (Text i text) = overlaid block i (length text ∷ text)

-- a block of zeros with these fields
abbrev pub block_of : List Field → List ℕ
block_of fields = fold with_field (replicate BLOCK_BYTES 0) fields

-- the blocks of an image, one after the other
abbrev pub image_of : List (List Field) → List ℕ
image_of blocks = flat_map block_of blocks
