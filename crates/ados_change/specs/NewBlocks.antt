-- How a change of an image allocates blocks, and what it leaves untouched otherwise.
use Rattle.std.specs.Prelude.{◌≡◌, ℕ, ◌<◌, ◌⊎◌, List, length, slice_index}
use Rattle.adf_block.specs.Image.{byte_at}
use Rattle.adf_block.specs.Whole.{HasFreeBit, IsImage}
use Rattle.adf_block.specs.declared.layout.TheConstants.{BLOCK_BYTES}
use Rattle.ados_model.specs.File.{data_blocks, extension_blocks}
use Rattle.ados_model.specs.declared.role.Role.{Role}
use Rattle.ados_model.specs.Faults.{InImage, IsFile, Reached}
use Rattle.ados_model.specs.Keys.{HasFileKey}
use Rattle.ados_model.specs.Tree.{Tree}
use Rattle.ados_model.specs.Stands.{Duty, HasDuty, Stands}
use Rattle.ados_model.specs.Kept.{IsField, Kept, NamesFirstData}
use Rattle.ados_data.specs.Order.{InTurn}
use Rattle.ados_change.specs.Untold.{IsBehindEnd, KeepsUntold, data_at}

-- a block that was free and is now in use: it was allocated
pub record IsTaken (old new : List ℕ) (block : ℕ) : Type 0 where
  pub inside : InImage old block
  pub was_free : HasFreeBit old block
  pub in_use : ¬ HasFreeBit new block

-- the allocated blocks of a list are in rising order
abbrev pub TakenRise : List ℕ → List ℕ → List ℕ → Type 0
TakenRise old new blocks =
    (i j : ℕ) → i < j → j < length blocks → IsTaken old new (slice_index blocks i)
    → IsTaken old new (slice_index blocks j) → slice_index blocks i < slice_index blocks j

-- the allocated extension blocks of a file have their places among its allocated data blocks
abbrev pub TakenInTurn : List ℕ → List ℕ → List ℕ → List ℕ → Type 0
TakenInTurn old new extensions blocks =
    (q i : ℕ) → q < length extensions → i < length blocks → IsTaken old new (slice_index extensions q)
    → IsTaken old new (slice_index blocks i) → InTurn q (slice_index extensions q) i (slice_index blocks i)

-- allocated blocks are below all blocks still free, and rise in each list of a file, an extension block just before the
-- data blocks whose pointers it has; their bytes outside fields are 0; the header of a new file has the number of its
-- first data block, or 0; bytes after the file's end are 0 in its allocated data blocks
pub record TakesLowest (old new : List ℕ) : Type 0 where
  pub lowest : (block other : ℕ) → IsTaken old new block → InImage old other → HasFreeBit old other
      → HasFreeBit new other → block < other
  pub zero_else : (block i : ℕ) (role : Role) → IsTaken old new block → Reached new block role → i < BLOCK_BYTES
      → ¬ IsField new block role i → byte_at new block i ≡ 0
  pub first : (block : ℕ) → IsTaken old new block → IsFile new block → NamesFirstData new block
  pub data_rise : (file : ℕ) → HasFileKey new file → TakenRise old new (data_blocks new file)
  pub extensions_rise : (file : ℕ) → HasFileKey new file → TakenRise old new (extension_blocks new file)
  pub in_turn : (file : ℕ) → HasFileKey new file
      → TakenInTurn old new (extension_blocks new file) (data_blocks new file)
  pub zero_end : (file q i : ℕ) → HasFileKey new file → IsTaken old new (data_at new file q)
      → IsBehindEnd new file q i → byte_at new (data_at new file q) i ≡ 0

-- no block is allocated: each free block is still free
abbrev pub TakesNone : List ℕ → List ℕ → Type 0
TakesNone old new = (block : ℕ) → InImage old block → HasFreeBit old block → HasFreeBit new block

-- all bytes of a block are unchanged
abbrev pub KeepsBlock : ℕ → List ℕ → List ℕ → Type 0
KeepsBlock block old new = (i : ℕ) → i < BLOCK_BYTES → byte_at new block i ≡ byte_at old block i

-- a block that is free afterwards has the bytes that it had before, the header of a removed entry too
abbrev pub KeepsFreed : List ℕ → List ℕ → Type 0
KeepsFreed old new = (block : ℕ) → InImage old block → HasFreeBit new block → KeepsBlock block old new

-- each block in use afterwards had the same use before, or was free
abbrev pub KeepsUses : List ℕ → List ℕ → Type 0
KeepsUses old new =
    (t u : Tree) (s : Stands old t) (r : Stands new u) (block : ℕ) (duty : Duty)
    → HasDuty u r.layout block duty → HasDuty t s.layout block duty ⊎ HasFreeBit old block

-- each file was a file before, or its header block was free
abbrev pub KeepsKinds : List ℕ → List ℕ → Type 0
KeepsKinds old new = (file : ℕ) → HasFileKey new file → HasFileKey old file ⊎ HasFreeBit old file

-- bytes in no field and bytes that no tree determines are unchanged; allocated blocks are the lowest free ones and are
-- 0 outside their fields; blocks free afterwards keep their bytes; no block goes from one use to another, nor a header
-- from a directory to a file; and an image of bytes stays one
pub record KeepsRest (old new : List ℕ) : Type 0 where
  pub kept : Kept old new
  pub lowest : TakesLowest old new
  pub freed : KeepsFreed old new
  pub untold : KeepsUntold old new
  pub uses : KeepsUses old new
  pub kinds : KeepsKinds old new
  pub bytes : IsImage old → IsImage new
