use Rattle.std.proofs.Common.{rules}
use Rattle.std.specs.Str.{IsUtf8}
use Rattle.adf_cli.proofs.Finding.{told}
use Rattle.adf_cli.proofs.given.word_of.Goals as goal

pub returns-in_ok-shown-in-Err-clause-foreign : goal.returns-in_ok-shown-in-Err-clause-foreign
returns-in_ok-shown-in-Err-clause-foreign c = told (¬ (IsUtf8 c.args.bytes.now)) c.wrong.result (search rules)
