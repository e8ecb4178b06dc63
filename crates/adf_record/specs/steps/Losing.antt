-- Lost blocks by the owners of all blocks.
use Rattle.std.specs.Prelude.{◌≡◌, ℕ, ◌<◌, List, Option, Some, None, slice_get, ⊤}
use Rattle.adf_block.specs.Image.{block_count}
use Rattle.ados_census.specs.Classes.{IsSoundAs}
use Rattle.ados_census.specs.declared.class.BlockKind.{BlockKind}
use Rattle.ados_volume.specs.declared.owner.Owner.{Owner}
use Rattle.ados_volume.specs.declared.owner.Owner.TheVariants.{Lost}

-- the block is sound as the kind, if there is one
abbrev pub IsWanted : List ℕ → ℕ → Option BlockKind → Type 0
IsWanted image block None = ⊤
IsWanted image block (Some kind) = IsSoundAs image block kind

-- a block of the image that is lost by these owners, and sound as the kind, if there is one
pub record IsCounted (image : List ℕ) (owners : List Owner) (kind : Option BlockKind) (block : ℕ) : Type 0 where
  pub inside : block < block_count image
  pub lost : slice_get owners block ≡ Some Lost
  pub wanted : IsWanted image block kind
