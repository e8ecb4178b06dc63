use Rattle.std.proofs.Common.{vec_len}
use Rattle.adf_rescue.proofs.plan.Plan.path_of.Given as goal

abbrev pub decreases-loop-name : goal.decreases-loop-name
decreases-loop-name l = vec_len l.names
