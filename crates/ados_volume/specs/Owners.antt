-- The owner of each block of a volume.
use Rattle.std.specs.Prelude.{◌≡◌, ◌≢◌, ℕ, ◌+◌, ◌<◌, List, length, slice_get, Some, IsSome}
use Rattle.adf_block.specs.Image.{IsInside, long, page_count}
use Rattle.adf_block.specs.Whole.{HasFreeBit}
use Rattle.adf_block.specs.declared.layout.TheConstants.{BOOT_BLOCKS, FIRST_PAGE}
use Rattle.ados_model.specs.Tree.{Content, Tree, content_at, root}
use Rattle.ados_model.specs.File.{data_blocks, extension_blocks}
use Rattle.ados_volume.specs.declared.owner.Owner.{Owner}
use Rattle.ados_volume.specs.declared.owner.Owner.TheVariants.{Boot, Root, Page, Directory, File, Data, Extension, Lost, Free}

-- the key is that of a file
abbrev pub IsFileIn : Tree → ℕ → Type 0
IsFileIn t file = (bytes : List ℕ) × (content_at t file ≡ Some (Content.File bytes))

-- the block has this owner, in an image that represents the tree
abbrev pub Owns : List ℕ → Tree → ℕ → Owner → Type 0
Owns image t block Boot = block < BOOT_BLOCKS
Owns image t block Root = block ≡ root t
Owns image t block (Page i) = (i < page_count t.blocks) × (block ≡ long image (root t) (FIRST_PAGE + i))
Owns image t block Directory = (block ≢ root t) × ((keys : List ℕ) × (content_at t block ≡ Some (Content.Directory keys)))
Owns image t block File = IsFileIn t block
Owns image t block (Data file k) = IsFileIn t file × (slice_get (data_blocks image file) k ≡ Some block)
Owns image t block (Extension file k) = IsFileIn t file × (slice_get (extension_blocks image file) k ≡ Some block)
Owns image t block Lost = IsSome (t.lost block)
Owns image t block Free = IsInside t.blocks block × HasFreeBit image block

-- these are the owners of the blocks, in order: each block has its owner in the list, and no other
pub record AreOwners (image : List ℕ) (t : Tree) (owners : List Owner) : Type 0 where
  pub count : length owners ≡ t.blocks
  pub owned : (block : ℕ) (owner : Owner) → slice_get owners block ≡ Some owner → Owns image t block owner
  pub alone : (block : ℕ) (owner other : Owner) → slice_get owners block ≡ Some owner → Owns image t block other → other ≡ owner
