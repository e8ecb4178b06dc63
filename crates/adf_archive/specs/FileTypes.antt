-- What a file that is no image looks like.
use Rattle.std.specs.Prelude.{◌≡◌, ℕ, ◌<◌, ◌≤◌, List, [], ◌∷◌, ◌++◌, codes}
use Rattle.adf_block.specs.Image.{IsInside, block_count, block_sum, long}
use Rattle.adf_block.specs.declared.layout.TheConstants.{BOOT_BLOCKS, HEADER_TYPE, PRIMARY_TYPE, ROOT_TYPE, SECONDARY_TYPE, TABLE_LONGS, TABLE_SIZE}
use Rattle.adf_archive.specs.declared.file_type.FileType.{FileType}
use Rattle.adf_archive.specs.declared.file_type.FileType.TheVariants.{Gzip, Zip, Dms, Ipf, ExtendedAdf, Scp, Hfe, Rdb}

-- the first bytes of each kind of file; those of HFE files and of extended ADF files go on in more than one way
abbrev pub magic : FileType → List ℕ
magic Gzip = 31 ∷ 139 ∷ []
magic Zip = codes "PK" ++ 3 ∷ 4 ∷ []
magic Dms = codes "DMS!"
magic Ipf = codes "CAPS"
magic ExtendedAdf = codes "UAE-"
magic Scp = codes "SCP"
magic Hfe = codes "HXC"
magic Rdb = codes "RDSK"

-- the bytes begin as those of such a file
abbrev pub BeginsAs : FileType → List ℕ → Type 0
BeginsAs file_type bytes = (rest : List ℕ) × (bytes ≡ magic file_type ++ rest)

-- the block has the types, the table size and the checksum of a root
pub record LooksLikeRoot (image : List ℕ) (block : ℕ) : Type 0 where
  pub primary : long image block PRIMARY_TYPE ≡ HEADER_TYPE
  pub secondary : long image block SECONDARY_TYPE ≡ ROOT_TYPE
  pub table : long image block TABLE_SIZE ≡ TABLE_LONGS
  pub sum : block_sum image block ≡ 0

-- the block looks like a root, and none before it does
pub record IsFirstRoot (image : List ℕ) (block : ℕ) : Type 0 where
  pub inside : IsInside (block_count image) block
  pub looks : LooksLikeRoot image block
  pub before : (other : ℕ) → BOOT_BLOCKS ≤ other → other < block → ¬ LooksLikeRoot image other
