-- The image at the start of a file, and what is behind it.
use Rattle.std.specs.Prelude.{◌≡◌, ℕ, ◌*◌, ◌-◌, ◌/◌, Bool, true, false, List, [], ◌++◌, length, take, replicate, Option, MatchOption}
use Rattle.adf_block.specs.declared.layout.TheConstants.{BLOCK_BYTES}
use Rattle.adf_io.specs.Load.{ReadsAll}
use Rattle.adf_io.specs.declared.load.Filled.{Filled}
use Rattle.adf_io.specs.declared.load.Loaded.{Loaded}

-- the file is the image and then what is behind it: the image has this number of blocks, or without a number nothing is behind it
pub record IsLoaded (blocks : Option ℕ) (file : List ℕ) (loaded : Loaded) : Type 0 where
  pub whole : file ≡ loaded.image ++ loaded.behind.items
  pub size : MatchOption blocks (loaded.behind.items ≡ []) (λ n. length loaded.image ≡ BLOCK_BYTES * n)

-- all bytes of a reader are such a file
abbrev pub ReadsLoaded : Option ℕ → Option (List ℕ) → Option (List ℕ) → Loaded → Type 0
ReadsLoaded blocks old new loaded = (file : List ℕ) × ReadsAll old new file × IsLoaded blocks file loaded

-- for each of so many blocks, whether the file lacks bytes of it: it has so many whole blocks
abbrev pub holes_of : ℕ → ℕ → List Bool
holes_of blocks whole = take blocks (replicate whole false) ++ replicate (blocks - whole) true

-- the image is the first blocks of the file, with zeros for as many bytes as are missing; a block that is not whole in the file is a hole
pub record IsFilled (blocks : ℕ) (file : List ℕ) (filled : Filled) : Type 0 where
  pub missing : filled.missing ≡ BLOCK_BYTES * blocks - length file
  pub image : filled.image ≡ take (BLOCK_BYTES * blocks) file ++ replicate filled.missing 0
  pub holes : filled.holes.items ≡ holes_of blocks (length file / BLOCK_BYTES)

-- all bytes of a reader are such a file
abbrev pub ReadsFilled : ℕ → Option (List ℕ) → Option (List ℕ) → Filled → Type 0
ReadsFilled blocks old new filled = (file : List ℕ) × ReadsAll old new file × IsFilled blocks file filled
