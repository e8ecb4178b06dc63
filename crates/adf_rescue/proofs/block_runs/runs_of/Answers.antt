use Rattle.std.proofs.Common.{sym, subst}
use Rattle.std.proofs.lemmas.Result.{IfOk-weaker}
use Rattle.adf_rescue.specs.BlockRuns.{AreBlockRuns}
use Rattle.adf_rescue.proofs.Running.{runs_of_blocks}
use Rattle.adf_rescue.proofs.block_runs.runs_of.Goals as goal

pub returns : goal.returns
returns c = IfOk-weaker c.all_runs.result _ _ (λ found is. subst (AreBlockRuns c.args.blocks.now) (sym is) (runs_of_blocks c.args.blocks.now c.requires)) c.all_runs.ensures
