use Rattle.ados_run.proofs.SameAnswers.{same_answer_same_handler}
use Rattle.ados_run.proofs.laws.same_answer_same_handler.Goals as goal

pub returns : goal.returns
returns c = same_answer_same_handler
