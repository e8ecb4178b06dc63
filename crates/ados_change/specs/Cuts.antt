-- What a cut leaves untouched in a file's header and in other blocks.
use Rattle.std.specs.Prelude.{◌≡◌, ℕ, ◌/◌, ◌<◌, List}
use Rattle.adf_block.specs.declared.layout.TheConstants.{BLOCK_BYTES}
use Rattle.adf_block.specs.Image.{byte_at}
use Rattle.ados_data.specs.Cut.{IsCutField}
use Rattle.ados_data.specs.Unnamed.{IsBeside}
use Rattle.ados_model.specs.File.{data_blocks, extension_blocks}
use Rattle.ados_model.specs.Faults.{root_of}
use Rattle.ados_change.specs.Stamps.{IsDiskStamp, IsFileStamp}

-- only the time stamps and the fields of the file's size and blocks change; pointers out of use are unchanged
abbrev pub KeepsHeader : ℕ → List ℕ → List ℕ → Type 0
KeepsHeader file old new = (k : ℕ) → k < BLOCK_BYTES → ¬ IsCutField (k / 4) → ¬ IsFileStamp (k / 4) → byte_at new file k ≡ byte_at old file k

-- blocks beside the bitmap and the file, in its new lists, are unchanged, apart from the disk date in the root
abbrev pub KeepsBeside : ℕ → List ℕ → List ℕ → Type 0
KeepsBeside file old new =
    (b i : ℕ) → i < BLOCK_BYTES → IsBeside old file (data_blocks new file) (extension_blocks new file) b → ¬ ((b ≡ root_of old) × IsDiskStamp (i / 4))
    → byte_at new b i ≡ byte_at old b i
