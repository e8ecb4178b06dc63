use Rattle.adf_script.proofs.Numerals.{number_is_text}
use Rattle.adf_script.proofs.numbers.number.Goals as goal

pub returns-in-Err : goal.returns-in-Err
returns-in-Err c = λ n spelled. c.in-Err.ensures.cases.0 (number_is_text n c.args.field.now spelled)
