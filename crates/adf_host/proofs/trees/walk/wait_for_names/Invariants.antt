use Rattle.std.proofs.Common.{vec_len}
use Rattle.adf_host.proofs.trees.walk.wait_for_names.Given as goal

abbrev pub decreases-loop-name : goal.decreases-loop-name
decreases-loop-name g l = vec_len l.names
