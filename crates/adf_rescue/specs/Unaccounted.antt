-- The used blocks that belong to nothing of a salvage, as files.
use Rattle.std.specs.Prelude.{◌≡◌, ℕ, ◌+◌, Bool, true, false, List, [], length}
use Rattle.adf_rescue.specs.BlockRuns.{AreBlockRuns}
use Rattle.adf_rescue.specs.declared.damaged.Rescue.{Rescue}
use Rattle.adf_rescue.specs.declared.plan.Plan.{Plan}
use Rattle.adf_rescue.specs.declared.block_runs.BlockRun.{BlockRun}
use Rattle.adf_rescue.specs.declared.unaccounted.RunFiles.{RunFiles}

-- all runs of these blocks if they are wanted, else none
abbrev pub AreWanted : Bool → List ℕ → List BlockRun → Type 0
AreWanted true blocks runs = AreBlockRuns blocks runs
AreWanted false blocks runs = runs ≡ []

-- the runs of blocks, if they are wanted; from this position on, the plan has one item for each, and so its source
pub record AreRunFiles (wanted : Bool) (blocks : List ℕ) (plan : Plan) (files : RunFiles) : Type 0 where
  pub wanted_runs : AreWanted wanted blocks files.runs.items
  pub items : length plan.out.sources.items ≡ files.from + length files.runs.items

-- the runs of the used blocks that belong to nothing are written, if that is wanted
abbrev pub WritesRuns : Bool → Rescue → Type 0
WritesRuns wanted rescue = AreRunFiles wanted rescue.unaccounted.items rescue.plan rescue.files
