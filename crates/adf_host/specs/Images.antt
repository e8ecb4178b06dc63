-- Lengths of image files.
use Rattle.std.specs.Prelude.{◌≡◌, ℕ, ◌/◌, ◌%◌}
use Rattle.adf_block.specs.declared.layout.TheConstants.{BLOCK_BYTES}
use Rattle.adf_block.specs.Whole.{IsSize}

-- this many bytes are whole blocks, as many as a volume may have
abbrev pub IsImageLength : ℕ → Type 0
IsImageLength n = (n % BLOCK_BYTES ≡ 0) × IsSize (n / BLOCK_BYTES)
