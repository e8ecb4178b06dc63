use Rattle.ados_change.proofs.SameBytes.{same_rest_same_bytes}
use Rattle.ados_change.proofs.laws.same_rest_same_bytes.Goals as goal

pub returns : goal.returns
returns c = same_rest_same_bytes
