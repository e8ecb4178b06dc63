use Rattle.std.proofs.Common.{◌≡◌, ◌≢◌, All, codes, false, take, true}
use Rattle.adf_cli.specs.Asked.{AreReadOnce}
use Rattle.adf_cli.proofs.taking.refuse_second_input.Given as goal

-- at most one of the arguments before this one is standard input, and none if none was found, or if it was taken before
abbrev pub invariant-loop-file : goal.invariant-loop-file
invariant-loop-file l = record {
  once : AreReadOnce (take l.file-index l.files);
  none : l.is_input_read ≡ false → All (λ word. word.now ≢ codes "-") (take l.file-index l.files);
  kept : l.is_taken ≡ true → l.is_input_read ≡ true;
  files : l.is_taken ≡ true → All (λ word. word.now ≢ codes "-") (take l.file-index l.files);
}
