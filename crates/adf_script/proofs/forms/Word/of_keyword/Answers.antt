use Rattle.adf_script.proofs.Common.{arith}
use Rattle.adf_script.proofs.WordList.{none_listed}
use Rattle.adf_script.proofs.forms.Word.of_keyword.Goals as goal

pub returns : goal.returns
returns c = none_listed c.args.keyword.now (λ k below. c.loop-word.invariant k (omega arith))
