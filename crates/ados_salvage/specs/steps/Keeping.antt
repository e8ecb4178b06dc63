-- A salvage whose bytes can be read.
use Rattle.std.specs.Prelude.{◌≡◌, ℕ, ◌<◌, ◌⊎◌, Bool, true, List, All, slice_index, ⊤}
use Rattle.adf_block.specs.Image.{block_count}
use Rattle.ados_model.specs.File.{LawfulFile}
use Rattle.ados_salvage.specs.Deleted.{IsTrustedBitmap}
use Rattle.ados_salvage.specs.declared.giving.Piece.{Piece}
use Rattle.ados_salvage.specs.declared.salvaged.Salvaged.{Salvaged}
use Rattle.ados_salvage.specs.Saved.{IsByteOf}
use Rattle.ados_salvage.specs.declared.salvaged.State.{State}
use Rattle.ados_salvage.specs.declared.salvaged.State.TheVariants as states

-- a lawful file with its header inside the image
pub record IsReadableFile (image : List ℕ) (file : ℕ) : Type 0 where
  pub inside : file < block_count image
  pub lawful : LawfulFile image file

-- a whole file can be read
abbrev pub CanBeRead : List ℕ → ℕ → State → Type 0
CanBeRead image header states.Whole = IsReadableFile image header
CanBeRead image header state = ⊤

abbrev pub IsReadable : List ℕ → Salvaged → Type 0
IsReadable image entry = CanBeRead image entry.header entry.state

-- a bitmap that is called trusted is; all whole files can be read, and the given blocks are inside the image
pub record IsKept (image : List ℕ) (trusted : Bool) (entries : List Salvaged) (given : List Piece) : Type 0 where
  pub trust : trusted ≡ true → IsTrustedBitmap image
  pub readable : All (IsReadable image) entries
  pub inside : All (λ piece. piece.block < block_count image) given

-- a byte of a file is as before, or one of this block
abbrev pub IsPutAt : List ℕ → ℕ → List ℕ → List ℕ → ℕ → Type 0
IsPutAt image block old new k = (slice_index new k ≡ slice_index old k) ⊎ IsByteOf image block (slice_index new k)
