use Rattle.std.proofs.Common.{◌≢◌, All, codes, take}
use Rattle.adf_cli.proofs.changing.add_files.Given as goal

-- the arguments before this one are files
abbrev pub invariant-loop-file : goal.invariant-loop-file
invariant-loop-file l = All (λ word. word.now ≢ codes "-") (take l.file-index l.files)
