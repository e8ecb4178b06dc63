-- The image that the check mends, and the bitmap blocks of the images.
use Rattle.std.specs.Prelude.{◌≡◌, ◌⊎◌, ℕ, ◌/◌, ◌<◌, List}
use Rattle.adf_block.specs.declared.layout.TheConstants.{BITMAP_FLAG}
use Rattle.adf_block.specs.declared.beside.TheConstants.{CHECKSUM}
use Rattle.adf_block.specs.Frame.{SameBut}
use Rattle.adf_block.specs.Image.{block_count, block_sum}
use Rattle.ados_map.specs.Pages.{LawfulPages, page_block, pages_of}
use Rattle.ados_model.specs.Faults.{root_of}
use Rattle.ados_model.specs.Rebuilt.{HasValidBitmap, IsOfBitmap}
use Rattle.ados_validate.specs.Mendable.{ShowsOnlyMendable}
use Rattle.ados_validate.specs.Validated.{IsValidated}

-- byte i of a block is in the root's checksum or bitmap flag
abbrev pub IsRootMark : List ℕ → ℕ → ℕ → Type 0
IsRootMark image block i = (block ≡ root_of image) × ((i / 4 ≡ CHECKSUM) ⊎ (i / 4 ≡ BITMAP_FLAG))

-- the first n bitmap blocks of the old image have right checksums in the new one
abbrev pub HaveSums : List ℕ → List ℕ → ℕ → Type 0
HaveSums old new n = (p : ℕ) → p < n → block_sum new (page_block old p) ≡ 0

-- only the bitmap changed: its blocks and the root have right checksums, and its flag says that it is not valid
pub record IsSettled (old settled : List ℕ) : Type 0 where
  pub rest : SameBut (IsOfBitmap old) old settled
  pub not_valid : ¬ HasValidBitmap settled
  pub page_sums : HaveSums old settled (pages_of old)
  pub root_sum : block_sum settled (root_of old) ≡ 0

-- an image that shows only faults which a new bitmap mends has lawful bitmap blocks
abbrev pub MendableHasPages : Type 0
MendableHasPages = (image : List ℕ) → ShowsOnlyMendable image → LawfulPages image

-- the bitmap blocks of the new image are those of the old one
abbrev pub HasSamePages : List ℕ → List ℕ → Type 0
HasSamePages old new = (p : ℕ) → p < pages_of old → page_block new p ≡ page_block old p

-- so has the new image, which is as large; they are the same blocks
abbrev pub ValidatedHasPages : Type 0
ValidatedHasPages = (old new : List ℕ) → IsValidated old new → LawfulPages new × (block_count new ≡ block_count old) × HasSamePages old new
