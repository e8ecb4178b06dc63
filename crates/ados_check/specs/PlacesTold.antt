-- What must be available of a block before its places are read.
use Rattle.std.specs.Prelude.{◌≡◌, ◌≢◌, ℕ, ◌⊎◌, IsTrue}
use Rattle.adf_block.specs.Image.{block_sum}
use Rattle.adf_block.specs.Fields.{primary_type}
use Rattle.adf_block.specs.declared.layout.TheConstants.{DATA_TYPE}
use Rattle.ados_check.specs.Source.{SourceView}
use Rattle.ados_model.specs.declared.role.Role.{Role}
use Rattle.ados_check.specs.Marks.{IsSound}

-- the source is a whole image, or the block is sound in its role
abbrev pub TellsOf : SourceView → ℕ → Role → Type 0
TellsOf source block role = IsTrue source.whole ⊎ IsSound source.bytes block role

-- the source is a whole image, or the block has a right checksum and is not an OFS data block; so each long is
-- available
abbrev pub TellsAll : SourceView → ℕ → Type 0
TellsAll source block = IsTrue source.whole ⊎ ((block_sum source.bytes block ≡ 0) × (primary_type source.bytes block ≢ DATA_TYPE))
