-- Which sizes of an image are refused, and with which fault.
use Rattle.std.specs.Prelude.{◌≡◌, ◌≢◌, ℕ, ◌/◌, ◌%◌, ◌<◌}
use Rattle.adf_block.specs.declared.layout.TheConstants.{FEWEST_BLOCKS, MOST_BLOCKS, BLOCK_BYTES}
use Rattle.adf_block.specs.declared.volume_size.SizeFault.{SizeFault}
use Rattle.adf_block.specs.declared.volume_size.SizeFault.TheVariants.{NotWholeBlocks, TooFewBlocks, TooManyBlocks}

-- the first fault of n bytes as an image
abbrev pub IsSizeFault : ℕ → SizeFault → Type 0
IsSizeFault n NotWholeBlocks = n % BLOCK_BYTES ≢ 0
IsSizeFault n TooFewBlocks = (n % BLOCK_BYTES ≡ 0) × (n / BLOCK_BYTES < FEWEST_BLOCKS)
IsSizeFault n TooManyBlocks = (n % BLOCK_BYTES ≡ 0) × (MOST_BLOCKS < n / BLOCK_BYTES)
