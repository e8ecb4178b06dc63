use Rattle.std.proofs.Common.{ℕ, ◌<◌}
use Rattle.ados_salvage.specs.Deleted.{IsTrustedPage}
use Rattle.ados_salvage.proofs.known.trust.are_trusted_pages.Given as goal

abbrev pub invariant-loop-p : goal.invariant-loop-p
invariant-loop-p l = (q : ℕ) → q < l.p → IsTrustedPage l.image q
