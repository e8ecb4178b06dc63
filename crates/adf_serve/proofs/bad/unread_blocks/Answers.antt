use Rattle.std.proofs.lemmas.Result.{IfOk-weaker}
use Rattle.adf_serve.proofs.Marks.{marks_of_empty}
use Rattle.adf_serve.proofs.bad.unread_blocks.Goals as goal

pub returns-clause-unread : goal.returns-clause-unread
returns-clause-unread g c = IfOk-weaker c.with_bad.result _ _ (λ marks are. marks_of_empty c.args.list c.args.blocks c.new.result.items marks.items c.new.ensures.items are) c.with_bad.ensures.marks
