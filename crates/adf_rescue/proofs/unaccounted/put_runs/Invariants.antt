use Rattle.std.proofs.Common.{◌≡◌, ◌+◌, length}
use Rattle.std.specs.Prelude.{flat_map}
use Rattle.adf_rescue.specs.Undelete.{file_in}
use Rattle.adf_rescue.specs.steps.Sourcing.{AreApart}
use Rattle.adf_rescue.proofs.unaccounted.put_runs.Given as goal

-- each run before this one has its item, which is no file of an entry
abbrev pub invariant-loop-run : goal.invariant-loop-run
invariant-loop-run l = record {
  items : length l.plan.out.sources.items ≡ l.from + l.run-index;
  apart : AreApart l.plan.out;
  files : flat_map file_in l.plan.out.sources.items ≡ flat_map file_in l.fn.plan.out.sources.items;
}
