-- The number of files and directories of a volume.
use Rattle.std.specs.Prelude.{◌≡◌, ℕ, ◌+◌, None, List, length, count_by}
use Rattle.ados_model.specs.Tree.{Tree, entries, root}
use Rattle.ados_model.specs.Change.{is_file}
use Rattle.ados_volume.specs.declared.below.Below.{Below}
use Rattle.ados_volume.specs.Below.{AreBelow}
use Rattle.adf_record.specs.declared.counts.Counts.{Counts}

-- the number of files among these entries
abbrev pub file_count : Tree → List Below → ℕ
file_count t found = count_by (λ e. is_file t e.key) found

-- the number of files below the root, and of directories
pub record AreCounts (t : Tree) (counts : Counts) : Type 0 where
  pub found : List Below
  pub below : AreBelow t None 0 (entries t (root t)) found
  pub files : counts.files ≡ file_count t found
  pub all : counts.files + counts.directories ≡ length found
