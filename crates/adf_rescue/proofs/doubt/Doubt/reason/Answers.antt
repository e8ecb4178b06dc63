use Rattle.std.proofs.Common.{append_assoc, ◌∙◌}
use Rattle.adf_rescue.proofs.doubt.Doubt.reason.Goals as goal

pub returns-in_ok-text-in-Shared : goal.returns-in_ok-text-in-Shared
returns-in_ok-text-in-Shared c = rw c.in-Shared.is (c.in_ok-text-in-Shared.ensures.ok ∙ simp (append_assoc))

pub returns-in_ok-text-in-Field : goal.returns-in_ok-text-in-Field
returns-in_ok-text-in-Field c = rw c.in-Field.is c.in_ok-text-in-Field.ensures.ok
