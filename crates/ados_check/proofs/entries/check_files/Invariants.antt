use Rattle.ados_check.proofs.Common.{ℕ, ◌<◌, IsSoundIfFile}
use Rattle.ados_check.proofs.entries.check_files.Given as goal

abbrev pub invariant-loop-block : goal.invariant-loop-block
invariant-loop-block l = (file : ℕ) → file < l.block → IsSoundIfFile l.source.bytes l.marks file
