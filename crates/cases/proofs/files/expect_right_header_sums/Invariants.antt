use Rattle.ados_data.specs.Changing.{WritableFile}
use Rattle.cases.proofs.files.expect_right_header_sums.Given as goal

abbrev pub invariant-loop-row : goal.invariant-loop-row
invariant-loop-row g l = WritableFile l.image l.file
