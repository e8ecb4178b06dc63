use Rattle.std.proofs.Common.{rules}
use Rattle.adf_cli.specs.Blocks.{NamesNone}
use Rattle.adf_cli.proofs.Finding.{told}
use Rattle.adf_cli.proofs.block_word.block_of.Goals as goal

pub returns-in-None-clause-fault : goal.returns-in-None-clause-fault
returns-in-None-clause-fault c = told (NamesNone c.args.word.now) c.wrong.result (search rules)
