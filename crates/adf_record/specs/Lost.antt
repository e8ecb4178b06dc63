-- The number of lost blocks of a volume, and of the headers among them.
use Rattle.std.specs.Prelude.{◌≡◌, ℕ, ◌<◌, List, length, All, AllPairs, Contains}
use Rattle.ados_census.specs.Classes.{IsSoundAs}
use Rattle.ados_census.specs.declared.class.BlockKind.{BlockKind}
use Rattle.ados_census.specs.declared.class.BlockKind.TheVariants.{DirectoryHeader, FileHeader}
use Rattle.ados_model.specs.Tree.{Tree}
use Rattle.ados_volume.specs.Owners.{Owns}
use Rattle.ados_volume.specs.declared.owner.Owner.TheVariants.{Lost}
use Rattle.adf_record.specs.declared.lost.LostBlocks.{LostBlocks}

-- the list has exactly the blocks with a property, in order
pub record ListsAll (P : ℕ → Type 0) (blocks : List ℕ) : Type 0 where
  pub in_order : AllPairs (λ a b. a < b) blocks
  pub each : All P blocks
  pub all : (block : ℕ) → P block → Contains blocks block

-- the number of blocks with a property
abbrev pub IsNumberOf : (ℕ → Type 0) → ℕ → Type 0
IsNumberOf P n = (blocks : List ℕ) × ListsAll P blocks × (n ≡ length blocks)

-- the block is marked used and belongs to nothing in the tree, and by its own bytes it is sound as this kind
abbrev pub IsLostAs : List ℕ → Tree → BlockKind → ℕ → Type 0
IsLostAs image t kind block = Owns image t block Lost × IsSoundAs image block kind

-- the number of lost blocks, and of the sound headers of files and of directories among them
pub record AreLost (image : List ℕ) (t : Tree) (lost : LostBlocks) : Type 0 where
  pub blocks : IsNumberOf (λ block. Owns image t block Lost) lost.blocks
  pub files : IsNumberOf (IsLostAs image t FileHeader) lost.files
  pub directories : IsNumberOf (IsLostAs image t DirectoryHeader) lost.directories
