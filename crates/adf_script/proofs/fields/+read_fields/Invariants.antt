use Rattle.adf_script.proofs.Common.{length}
use Rattle.adf_script.proofs.fields.+read_fields.Given as goal

abbrev pub decreases-read_fields : goal.decreases-read_fields
decreases-read_fields l = length l.kinds.now
