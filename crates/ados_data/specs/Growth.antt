-- Files that grow.
use Rattle.std.specs.Prelude.{◌≡◌, ℕ, ◌≤◌, List, length, take}
use Rattle.adf_block.specs.Fields.{format_of}
use Rattle.ados_model.specs.File.{contents, data_blocks, extension_blocks}
use Rattle.ados_data.specs.Changing.{PaysFor, WritableFile}
use Rattle.ados_data.specs.Others.{FileGains, LeavesOthers}
use Rattle.ados_data.specs.Sums.{ChangedAreSummed}
use Rattle.ados_data.specs.Unnamed.{FileKeepsUnnamed}

-- a file grew to this size, or already had it: it can be changed again, and keeps its blocks; it took the lowest free
-- blocks, as many as the size costs; all else is unchanged, and the checksum of each changed block is right
pub record GrowsFile (old : List ℕ) (file size : ℕ) (new : List ℕ) : Type 0 where
  pub writable : WritableFile new file
  pub format : format_of new ≡ format_of old
  pub longer : length (contents old file) ≤ size
  pub sized : length (contents new file) ≡ size
  pub free : PaysFor old file size new
  pub leaves : LeavesOthers old file new
  pub gains : FileGains old file new
  pub blocks : take (length (data_blocks old file)) (data_blocks new file) ≡ data_blocks old file
  pub extensions : take (length (extension_blocks old file)) (extension_blocks new file) ≡ extension_blocks old file
  pub keeps : FileKeepsUnnamed old file new
  pub sums : ChangedAreSummed old file new
