use Rattle.std.proofs.Common.{◌-◌}
use denote.Text.{Utf8}
use denote.Shadow.{shadow}
use Rattle.adf_archive.proofs.reasons.ReasonsDisplay.fmt.Given as goal

-- the text before the next reason is text
abbrev pub invariant-loop-reason : goal.invariant-loop-reason
invariant-loop-reason g l =
    (goal.iterator-loop-reason g).can_next l.reason-iterator ×
    (goal.iterator-loop-reason g).is_finite l.reason-iterator ×
    shadow (Utf8 l.before)
