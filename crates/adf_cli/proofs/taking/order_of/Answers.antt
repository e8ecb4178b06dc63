use Rattle.std.proofs.Common.{◌≢◌, rules}
use Rattle.adf_cli.specs.Lists.{order_word}
use Rattle.adf_cli.specs.declared.query.ListOrder.{ListOrder}
use Rattle.adf_cli.proofs.Finding.{told}
use Rattle.adf_cli.proofs.taking.order_of.Goals as goal

pub returns-in_default-clause-fault : goal.returns-in_default-clause-fault
returns-in_default-clause-fault c = told ((order : ListOrder) → c.args.word.now ≢ order_word order) c.wrong.result (search rules)
