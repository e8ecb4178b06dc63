use Rattle.std.proofs.Common.{◌≡◌, take}
use Rattle.std.specs.Prelude.{flat_map}
use Rattle.adf_rescue.specs.Undelete.{file_in, files_saved}
use Rattle.adf_rescue.specs.steps.Sourcing.{AreApart}
use Rattle.adf_rescue.proofs.saving.Saving.of.Given as goal

-- the files of the entries before this one
abbrev pub invariant-loop-one : goal.invariant-loop-one
invariant-loop-one l = record {
  apart : AreApart l.saving.out;
  files : flat_map file_in l.saving.out.sources.items ≡ files_saved l.force (take l.one-index l.chosen);
}
