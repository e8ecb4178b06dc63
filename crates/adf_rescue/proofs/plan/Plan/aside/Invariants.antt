use Rattle.std.proofs.Common.{◌≡◌, vec_len}
use Rattle.std.specs.Prelude.{flat_map}
use Rattle.adf_rescue.specs.Undelete.{file_in}
use Rattle.adf_rescue.specs.steps.Sourcing.{AreApart}
use Rattle.adf_rescue.proofs.plan.Plan.aside.Given as goal

-- directories have no files
abbrev pub invariant-loop-place : goal.invariant-loop-place
invariant-loop-place l = record {
  apart : AreApart l.self.out;
  files : flat_map file_in l.self.out.sources.items ≡ flat_map file_in l.fn.self.out.sources.items;
}

abbrev pub decreases-loop-place : goal.decreases-loop-place
decreases-loop-place l = vec_len l.way
