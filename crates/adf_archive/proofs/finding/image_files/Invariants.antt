use Rattle.std.proofs.Common.{◌≡◌, false, map, take}
use Rattle.adf_archive.proofs.Common.{string_bytes}
use Rattle.adf_archive.proofs.Searching.{texts}
use Rattle.adf_archive.proofs.finding.image_files.Given as goal

-- without a directory, the paths are the arguments that were looked at
abbrev pub invariant-loop-word : goal.invariant-loop-word
invariant-loop-word g l = l.found.in_directory ≡ false → map string_bytes l.found.paths.items ≡ take l.word-index (texts l.words)
