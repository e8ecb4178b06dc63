-- The new image when an invalid bitmap is rebuilt.
use Rattle.std.specs.Prelude.{◌≡◌, ℕ, ◌+◌, ◌*◌, ◌/◌, ◌<◌, ◌≤◌, ◌⊎◌, List}
use Rattle.adf_block.specs.Image.{block_count, page_count, long, block_sum}
use Rattle.adf_block.specs.Whole.{HasFreeBit}
use Rattle.adf_block.specs.declared.layout.TheConstants.{BOOT_BLOCKS, BITMAP_FLAG, BITMAP_VALID, PAGE_BITS}
use Rattle.adf_block.specs.declared.beside.TheConstants.{CHECKSUM}
use Rattle.adf_block.specs.Frame.{SameBut}
use Rattle.ados_model.specs.declared.role.Role.{Role}
use Rattle.ados_model.specs.declared.role.Role.TheVariants as roles
use Rattle.ados_model.specs.Faults.{Reached, InImage, root_of}

-- the root's flag says that the bitmap is valid
abbrev pub HasValidBitmap : List ℕ → Type 0
HasValidBitmap image = long image (root_of image) BITMAP_FLAG ≡ BITMAP_VALID

-- byte i of a block belongs to the bitmap: it is in a bitmap block, or in the root's checksum or bitmap flag
abbrev pub IsOfBitmap : List ℕ → ℕ → ℕ → Type 0
IsOfBitmap image block i =
    Reached image block roles.Page
    ⊎ ((block ≡ root_of image) × ((i / 4 ≡ CHECKSUM) ⊎ (i / 4 ≡ BITMAP_FLAG)))

-- the new image is the old one, whose bitmap was not valid, with a bitmap that marks exactly the reached blocks used
pub record Rebuilt (old new : List ℕ) : Type 0 where
  pub was_not_valid : ¬ HasValidBitmap old
  pub is_valid : HasValidBitmap new
  pub rest : SameBut (IsOfBitmap old) old new
  pub root_sum : block_sum new (root_of new) ≡ 0
  pub page_sums : (page : ℕ) → Reached old page roles.Page → block_sum new page ≡ 0
  pub free : (block : ℕ) → InImage old block → HasFreeBit new block → (role : Role) → ¬ Reached old block role
  pub in_use : (block : ℕ) → InImage old block → ¬ HasFreeBit new block → (role : Role) × Reached old block role
  -- the bits past the volume's end are clear
  pub past_end : (block : ℕ) → block_count old ≤ block → block < BOOT_BLOCKS + PAGE_BITS * page_count (block_count old)
      → ¬ HasFreeBit new block
