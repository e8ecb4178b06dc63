use Rattle.std.proofs.Common.{◌≢◌, ℕ, ◌<◌}
use Rattle.ados_map.specs.Pages.{page_block}
use Rattle.ados_salvage.proofs.known.trust.is_page_before.Given as goal

abbrev pub invariant-loop-q : goal.invariant-loop-q
invariant-loop-q l = (k : ℕ) → k < l.q → page_block l.image k ≢ l.page
