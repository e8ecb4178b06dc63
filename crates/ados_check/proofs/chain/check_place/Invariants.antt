use Rattle.ados_check.proofs.Common.{ℕ, ◌<◌, slice_index_or, BreaksRule, DataRule, DATA_RULES}
use Rattle.ados_check.proofs.chain.check_place.Given as goal

abbrev pub invariant-loop-rule : goal.invariant-loop-rule
invariant-loop-rule l = (k : ℕ) (d : DataRule) → k < l.rule-index → ¬ BreaksRule l.source.bytes l.place (slice_index_or DATA_RULES k d)
