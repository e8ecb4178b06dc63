use Rattle.std.proofs.Common.{subst}
use Rattle.adf_record.specs.Bundle.{IsHeadOf}
use Rattle.adf_import.proofs.saved_head.has_head.Goals as goal

pub returns : goal.returns
returns c = λ t s yes. subst (IsHeadOf t) (c.same_head.ensures.0 yes) (c.in_ok-found.ensures t s).head
