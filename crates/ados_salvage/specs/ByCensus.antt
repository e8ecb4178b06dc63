-- Headers, as the census of an image has them.
use Rattle.std.specs.Prelude.{ℕ, ◌↔◌, ◌⊎◌, List, None}
use Rattle.adf_block.specs.Image.{block_count, long, IsInside}
use Rattle.adf_block.specs.Whole.{IsImage}
use Rattle.ados_census.specs.Classes.{IsKind, LooksLike}
use Rattle.ados_census.specs.declared.class.BlockKind.TheVariants.{DirectoryHeader, FileHeader}
use Rattle.ados_salvage.specs.Doubtful.{LooksLikeHeader}
use Rattle.ados_salvage.specs.Sound.{IsSoundHeader}

-- a sound header is exactly a block that is sound as the header of a file or of a directory
abbrev pub SoundHeadersByCensus : Type 0
SoundHeadersByCensus = (image : List ℕ) (block : ℕ) → IsImage image
    → IsSoundHeader image block ↔ (IsKind image block FileHeader None ⊎ IsKind image block DirectoryHeader None)

-- a block of the volume looks like a header exactly if it looks like the header of a file or of a directory
abbrev pub HeadersLookByCensus : Type 0
HeadersLookByCensus = (image : List ℕ) (block : ℕ) → IsImage image → IsInside (block_count image) block
    → LooksLikeHeader image block ↔ (LooksLike FileHeader block (long image block) ⊎ LooksLike DirectoryHeader block (long image block))
