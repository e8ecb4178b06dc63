use Rattle.std.proofs.Common.{◌≡◌, ◌++◌, take}
use Rattle.std.specs.Prelude.{flat_map}
use Rattle.adf_rescue.specs.RescueObject.{hole_tokens}
use Rattle.adf_rescue.proofs.rescue_object.put_runs.Given as goal

-- the objects of the runs before this one
abbrev pub invariant-loop-run : goal.invariant-loop-run
invariant-loop-run l = record {
  before : l.writer.before ≡ l.fn.writer.before;
  tokens : l.writer.tokens ≡ l.fn.writer.tokens ++ flat_map (hole_tokens l.image l.header) (take l.run-index l.runs);
}
