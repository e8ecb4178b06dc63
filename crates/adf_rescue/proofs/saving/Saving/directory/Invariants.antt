use Rattle.std.proofs.Common.{◌≡◌, vec_len}
use Rattle.std.specs.Prelude.{flat_map}
use Rattle.adf_rescue.specs.Undelete.{file_in}
use Rattle.adf_rescue.specs.steps.Sourcing.{AreApart}
use Rattle.adf_rescue.proofs.saving.Saving.directory.Given as goal

-- directories have no files
abbrev pub invariant-loop-position : goal.invariant-loop-position
invariant-loop-position l = record {
  apart : AreApart l.self.out;
  files : flat_map file_in l.self.out.sources.items ≡ flat_map file_in l.initial.self.out.sources.items;
}

abbrev pub decreases-loop-position : goal.decreases-loop-position
decreases-loop-position l = vec_len l.way
