use Rattle.std.proofs.Common.{ℕ, ◌<◌, ◌≤◌}
use Rattle.adf_archive.specs.FileTypes.{LooksLikeRoot}
use Rattle.adf_archive.proofs.file_type.first_root.Given as goal

-- no block before this one looks like a root
abbrev pub invariant-loop-block : goal.invariant-loop-block
invariant-loop-block l = (b : ℕ) → 2 ≤ b → b < l.block → ¬ LooksLikeRoot l.image b
