-- What is written of a damaged image, before the report on it is made.
use Rattle.std.specs.Prelude.{◌≡◌, Bool, flat_map}
use Rattle.ados_salvage.specs.Account.{AreUnaccounted}
use Rattle.ados_salvage.specs.Salvaged.{Saved}
use Rattle.adf_rescue.specs.Paths.{ArePathsApart, files_from}
use Rattle.adf_rescue.specs.Unaccounted.{AreRunFiles}
use Rattle.adf_rescue.specs.Undelete.{file_in}
use Rattle.adf_rescue.specs.declared.damaged.Output.{Output}

-- each file of the salvage, once, and no two files, directories or notes to one path; and the runs of the used blocks that belong to
-- nothing of it, if they are wanted
pub record IsOutput (saved : Saved) (wanted : Bool) (output : Output) : Type 0 where
  pub unaccounted : AreUnaccounted saved output.unaccounted.items
  pub paths : ArePathsApart output.plan.out.items.items
  pub files : flat_map file_in output.plan.out.sources.items ≡ files_from 0 saved.entries
  pub runs : AreRunFiles wanted output.unaccounted.items output.plan output.files
