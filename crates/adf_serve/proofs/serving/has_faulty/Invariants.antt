use Rattle.std.proofs.Common.{◌≢◌, ℕ, ◌<◌, Vec, Global, slice_index_or}
use Rattle.adf_script.specs.declared.ending.ClientEnding.{ClientEnding}
use Rattle.adf_script.specs.declared.ending.ClientEnding.TheVariants as ending
use Rattle.adf_serve.specs.Served.{ending_of}
use Rattle.adf_serve.proofs.serving.has_faulty.Given as goal

-- no client before this one ended so
abbrev pub invariant-loop-text : goal.invariant-loop-text
invariant-loop-text l = (k : ℕ) (d : Vec ℕ Global × ClientEnding) → k < l.text-index → ending_of (slice_index_or l.texts k d) ≢ ending.Script
