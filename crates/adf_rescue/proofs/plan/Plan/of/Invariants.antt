use Rattle.std.proofs.Common.{◌≡◌, take}
use Rattle.std.specs.Prelude.{flat_map}
use Rattle.adf_rescue.specs.Paths.{files_from}
use Rattle.adf_rescue.specs.Undelete.{file_in}
use Rattle.adf_rescue.specs.steps.Sourcing.{AreApart}
use Rattle.adf_rescue.proofs.plan.Plan.of.Given as goal

-- the files of the entries before this one
abbrev pub invariant-loop-place : goal.invariant-loop-place
invariant-loop-place l = record {
  apart : AreApart l.plan.out;
  files : flat_map file_in l.plan.out.sources.items ≡ files_from 0 (take l.place l.salvage.entries);
}
