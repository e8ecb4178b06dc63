use Rattle.std.proofs.Common.{◌≡◌, ℕ, ◌<◌}
use Rattle.adf_block.specs.Image.{byte_at}
use Rattle.ados_salvage.proofs.account.unaccounted.has_content.Given as goal

abbrev pub invariant-loop-at : goal.invariant-loop-at
invariant-loop-at l = (k : ℕ) → k < l.at → byte_at l.image l.block k ≡ 0
