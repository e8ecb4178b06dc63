use Rattle.std.proofs.Common.{◌≡◌, length}
use Rattle.adf_serve.proofs.serving.read_scripts.Given as goal

-- a script for each file so far
abbrev pub invariant-loop-file : goal.invariant-loop-file
invariant-loop-file g l = length l.scripts.items ≡ l.file-index
