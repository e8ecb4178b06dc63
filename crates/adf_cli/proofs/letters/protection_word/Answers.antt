use Rattle.std.proofs.Common.{◌≡◌, None, rules}
use Rattle.adf_text.specs.ProtectWords.{protect_word}
use Rattle.adf_cli.proofs.Finding.{told}
use Rattle.adf_cli.proofs.letters.protection_word.Goals as goal

pub returns-in-None-clause-fault : goal.returns-in-None-clause-fault
returns-in-None-clause-fault c = told (protect_word c.args.word.now ≡ None) c.wrong.result (search rules)
