-- The end of a file, and bytes appended there.
use Rattle.std.specs.Prelude.{◌≡◌, ℕ, ◌-◌, ◌*◌, ◌<◌, ◌≤◌, List, ◌∷◌, length, slice_index, take}
use Rattle.adf_block.specs.declared.layout.Format.{Format}
use Rattle.ados_data.specs.declared.grow.End.{End}
use Rattle.ados_model.specs.Tree.{data_count, data_size}
use Rattle.ados_model.specs.File.{data_blocks, extension_blocks}

-- the number of data blocks, the last pointer block, and the last data block or 0
pub record IsEnd (image : List ℕ) (file : ℕ) (end : End) : Type 0 where
  pub counted : end.count ≡ length (data_blocks image file)
  pub holder_is : end.holder ≡ slice_index (file ∷ extension_blocks image file) (length (extension_blocks image file))
  pub last_is : end.last ≡ slice_index (data_blocks image file) (length (data_blocks image file) - 1)

-- a longer file of this size: first the old bytes, then any bytes in the rest of the last data block, then zeros
pub record IsLonger (format : Format) (old : List ℕ) (size : ℕ) (new : List ℕ) : Type 0 where
  pub front : take (length old) new ≡ old
  pub count : length new ≡ size
  pub zeros : (k : ℕ) → data_size format * data_count format (length old) ≤ k → k < size → slice_index new k ≡ 0
