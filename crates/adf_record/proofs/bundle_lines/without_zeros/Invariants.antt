use Rattle.adf_record.proofs.Common.{◌≡◌, ℕ, List, ◌++◌, All, length}
use Rattle.adf_record.proofs.bundle_lines.without_zeros.Given as goal

-- what is left, and then zeros
abbrev pub invariant-loop-front : goal.invariant-loop-front
invariant-loop-front l = (zeros : List ℕ) × (l.bytes ≡ l.kept ++ zeros) × All (λ b. b ≡ 0) zeros

abbrev pub decreases-loop-front : goal.decreases-loop-front
decreases-loop-front l = length l.kept
