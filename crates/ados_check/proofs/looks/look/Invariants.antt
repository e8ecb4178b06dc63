use Rattle.ados_check.proofs.Common.{ℕ, ◌<◌, slice_index_or, HasBadField, FieldRule, FIELD_RULES}
use Rattle.ados_check.proofs.looks.look.Given as goal

abbrev pub invariant-loop-rule : goal.invariant-loop-rule
invariant-loop-rule l = (k : ℕ) (e : FieldRule) → k < l.rule-index → ¬ HasBadField l.source.bytes l.block l.role (slice_index_or FIELD_RULES k e)
