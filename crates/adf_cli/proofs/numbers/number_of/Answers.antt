use Rattle.std.proofs.Common.{arith}
use Rattle.std.proofs.lemmas.Fmt.{parse-decimal}
use Rattle.adf_cli.proofs.Finding.{same_number}
use Rattle.adf_cli.proofs.numbers.number_of.Goals as goal

pub returns-in-Ok : goal.returns-in-Ok
returns-in-Ok c = λ n small is. same_number _ c.in-Ok.number n c.in-Ok.is (parse-decimal 64 n c.args.text.now c.parse.result (omega (arith, small)) (omega arith) is c.parse.ensures.value.0)
