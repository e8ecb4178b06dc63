-- The owners of blocks while they are being found. `Lost` stands for the owners that are not known yet.
use Rattle.std.specs.Prelude.{◌≡◌, ◌≢◌, ◌↔◌, ◌⊎◌, ℕ, ◌+◌, ◌/◌, ◌<◌, List, length, slice_get, Some, Contains}
use Rattle.adf_block.specs.Image.{block_count, page_count}
use Rattle.adf_block.specs.Whole.{HasFreeBit}
use Rattle.adf_block.specs.declared.layout.TheConstants.{TABLE_LONGS}
use Rattle.ados_data.specs.declared.place.Place.{Place}
use Rattle.ados_data.specs.Place.{IsPlace}
use Rattle.ados_map.specs.Pages.{page_block}
use Rattle.ados_change.specs.Conditions.{IsUnder}
use Rattle.ados_model.specs.Tree.{Tree}
use Rattle.ados_model.specs.Faults.{InImage}
use Rattle.ados_model.specs.File.{data_blocks, extension_blocks}
use Rattle.ados_model.specs.Stands.{Stands}
use Rattle.ados_volume.specs.Owners.{IsFileIn, Owns}
use Rattle.ados_volume.specs.declared.owner.Owner.{Owner}
use Rattle.ados_volume.specs.declared.owner.Owner.TheVariants.{Boot, Lost, Free}

-- the owner that a block has by its bit alone
abbrev pub IsByBit : List ℕ → ℕ → Owner → Type 0
IsByBit image block Boot = block < 2
IsByBit image block Free = InImage image block × HasFreeBit image block
IsByBit image block Lost = InImage image block × (¬ HasFreeBit image block)
IsByBit image block _ = ⊥

-- the list has the owner of the block, or the one by its bit
abbrev pub IsKnown : List ℕ → Tree → ℕ → Owner → Type 0
IsKnown image t block owner = Owns image t block owner ⊎ IsByBit image block owner

-- a list with an owner for each block that is known
pub record AreKnownOwners (image : List ℕ) (t : Tree) (owners : List Owner) : Type 0 where
  pub count : length owners ≡ t.blocks
  pub known : (block : ℕ) (owner : Owner) → slice_get owners block ≡ Some owner → IsKnown image t block owner

-- the same for each tree that the image represents
abbrev pub AreKnownIn : List ℕ → List Owner → Type 0
AreKnownIn image owners = (t : Tree) → Stands image t → AreKnownOwners image t owners

-- the block is `Lost` in the list
abbrev pub IsLeft : List Owner → ℕ → Type 0
IsLeft owners block = slice_get owners block ≡ Some Lost

-- no block is `Lost` that was not before
abbrev pub LeavesLess : List Owner → List Owner → Type 0
LeavesLess old new = (block : ℕ) → IsLeft new block → IsLeft old block

-- no bitmap block is left
abbrev pub LeavesNoPage : List ℕ → List Owner → Type 0
LeavesNoPage image owners = (i : ℕ) → i < page_count (block_count image) → ¬ IsLeft owners (page_block image i)

-- none of these blocks is left
abbrev pub LeavesNone : List Owner → List ℕ → Type 0
LeavesNone owners blocks = (k block : ℕ) → slice_get blocks k ≡ Some block → ¬ IsLeft owners block

-- none of the blocks in pointer block q of a file is left
abbrev pub LeavesNonePointed : List Owner → List ℕ → ℕ → Type 0
LeavesNonePointed owners blocks q = (k block : ℕ) → slice_get blocks k ≡ Some block → k / TABLE_LONGS ≡ q → ¬ IsLeft owners block

-- the pointer block of a file behind another
pub record IsNextPlace (image : List ℕ) (file : ℕ) (from next : Place) : Type 0 where
  pub place : IsPlace image file next
  pub index : next.index ≡ from.index + 1

-- no block of the entry is left
pub record LeavesNoneOf (image : List ℕ) (t : Tree) (owners : List Owner) (key : ℕ) : Type 0 where
  pub own : ¬ IsLeft owners key
  pub file_data : IsFileIn t key → LeavesNone owners (data_blocks image key)
  pub extensions : IsFileIn t key → LeavesNone owners (extension_blocks image key)

-- these are the keys of all entries below a directory
abbrev pub AreAllBelow : Tree → ℕ → List ℕ → Type 0
AreAllBelow t top keys = (key : ℕ) → Contains keys key ↔ ((key ≢ top) × IsUnder t top key)
