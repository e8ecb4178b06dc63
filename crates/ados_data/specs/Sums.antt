-- The checksums after a change of a file.
use Rattle.std.specs.Prelude.{◌≡◌, ℕ, ◌<◌, List, length, slice_index}
use Rattle.adf_block.specs.declared.layout.Format.TheVariants.{Ofs}
use Rattle.adf_block.specs.Fields.{format_of}
use Rattle.ados_map.specs.Pages.{pages_of, page_block}
use Rattle.ados_model.specs.File.{data_blocks, extension_blocks}
use Rattle.ados_data.specs.Others.{KeptOrSummed}

-- each bitmap block, and each block of the file with a checksum, is unchanged byte for byte, or its longs add up to 0
-- afterwards, whatever they did before; data blocks have a checksum in OFS only
pub record ChangedAreSummed (old : List ℕ) (file : ℕ) (new : List ℕ) : Type 0 where
  pub page : (p : ℕ) → p < pages_of old → KeptOrSummed old new (page_block old p)
  pub header : KeptOrSummed old new file
  pub extension : (q : ℕ) → q < length (extension_blocks new file) → KeptOrSummed old new (slice_index (extension_blocks new file) q)
  pub ofs_data : format_of new ≡ Ofs → (i : ℕ) → i < length (data_blocks new file) → KeptOrSummed old new (slice_index (data_blocks new file) i)
