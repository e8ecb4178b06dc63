-- The image after one of its blocks was written through a borrow.
use Rattle.std.specs.Prelude.{ℕ, ◌+◌, ◌*◌, ◌++◌, List, length, take, drop}
use Rattle.std.specs.Borrow.{Lends, MutBor, Fml, Array, u8}
use Rattle.adf_block.specs.declared.layout.TheConstants.{BLOCK_BYTES}
use Rattle.adf_block.specs.contracts.floppy.Image.{the_row}

-- the image with w written from the start of block b, cut to its old length
unfoldable pub with_block : List ℕ → ℕ → List ℕ → List ℕ
with_block image b w = take (length image) (take (BLOCK_BYTES * b) image ++ w ++ drop (BLOCK_BYTES * b + length w) image)

-- the borrowed image ends with the bytes that the borrower of block b left there
abbrev pub LendsBlock : MutBor (List ℕ) → ℕ → MutBor (List ℕ) → Fml
LendsBlock image b block = Lends the_row (Array u8 0) image block (with_block image.now b)
