use Rattle.std.proofs.Common.{◌≢◌, codes, rules}
use Rattle.adf_text.specs.Written.{HasNoWritten}
use Rattle.adf_cli.proofs.Finding.{date_found, none_found, told}
use Rattle.adf_cli.proofs.dates.moment_word.Goals as goal

pub returns-in-Some-clause-moment : goal.returns-in-Some-clause-moment
returns-in-Some-clause-moment c = date_found _ c.args.word.now _ c.in-Some.date c.as_bytes.ensures.value c.in-Some.is c.in_ok-date.ensures

pub returns-in-None-clause-fault : goal.returns-in-None-clause-fault
returns-in-None-clause-fault c = told (HasNoWritten c.args.word.now × (c.args.word.now ≢ codes "now")) c.wrong.result
    (none_found _ c.args.word.now _ c.as_bytes.ensures.value c.in-None.is c.in_ok-date.ensures, search rules)
