use Rattle.std.proofs.Common.{[], refl, arith}
use Rattle.adf_cli.proofs.Asking.{only_word}
use Rattle.adf_cli.proofs.changing.add_as.Goals as goal

pub returns : goal.returns
returns c = ((_, only_word c.args.files.now (record { ref_ptr = (0, 0); now = [] }) (omega arith) (omega arith), c.source_of-source.ensures), c.in_ok-letters_of.ensures.same, refl, refl)
