-- What may be lost with the old bitmap.
use Rattle.std.specs.Prelude.{◌≡◌, ◌≢◌, ◌⊎◌, ℕ, ◌+◌, ◌<◌, List, bit_xor, count_ones}
use Rattle.adf_block.specs.declared.layout.TheConstants.{DATA_TYPE, DIRECTORY_TYPE, FILE_TYPE, FIRST_MAP_LONG, HEADER_TYPE, LIST_TYPE, MAP_LONGS, ROOT_TYPE}
use Rattle.adf_block.specs.Fields.{primary_type, secondary_type}
use Rattle.adf_block.specs.Image.{block_sum, long, total}
use Rattle.ados_salvage.specs.Found.{IsLostHeader}
use Rattle.ados_validate.specs.declared.caution.Caution.{Caution}
use Rattle.ados_validate.specs.declared.caution.Caution.TheVariants.{Differs, LooksLike, LostHeader}
use Rattle.ados_validate.specs.declared.caution.Look.{Look}
use Rattle.ados_validate.specs.declared.caution.Look.TheVariants.{Data, Extension, Header}
use Rattle.ados_validate.specs.declared.caution.TheConstants.{MOST_CHANGED_BITS}
use Rattle.ados_map.specs.Pages.{IsPage}

-- the type of the root, a directory or a file
abbrev pub IsHeaderType : ℕ → Type 0
IsHeaderType n = (n ≡ ROOT_TYPE) ⊎ ((n ≡ DIRECTORY_TYPE) ⊎ (n ≡ FILE_TYPE))

-- the types in the block are those of such a block
abbrev pub HasLook : List ℕ → ℕ → Look → Type 0
HasLook image block Header = (primary_type image block ≡ HEADER_TYPE) × IsHeaderType (secondary_type image block)
HasLook image block Extension = (primary_type image block ≡ LIST_TYPE) × (secondary_type image block ≡ FILE_TYPE)
HasLook image block Data = primary_type image block ≡ DATA_TYPE

-- the number of bits of a bitmap block, without its checksum, that differ between two images
abbrev pub changed_bits : List ℕ → List ℕ → ℕ → ℕ
changed_bits old new page = total (λ i. count_ones (bit_xor (long old page (i + FIRST_MAP_LONG)) (long new page (i + FIRST_MAP_LONG)))) MAP_LONGS

-- a bitmap block looks like another block; it has a wrong checksum and differs from the new one in many bits; or a
-- lost block is a sound header
abbrev pub IsCaution : List ℕ → List ℕ → Caution → Type 0
IsCaution old new (LooksLike page look) = IsPage old page × HasLook old page look
IsCaution old new (Differs page bits) = IsPage old page × (block_sum old page ≢ 0) × (bits ≡ changed_bits old new page) × (MOST_CHANGED_BITS < bits)
IsCaution old new (LostHeader block) = IsLostHeader old block

-- nothing is lost with the old bitmap
abbrev pub HasNoCaution : List ℕ → List ℕ → Type 0
HasNoCaution old new = (caution : Caution) → ¬ IsCaution old new caution
