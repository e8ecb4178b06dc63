use Rattle.ados_check.proofs.Common.{sym, ◌∙◌}
use Rattle.ados_check.proofs.Reading.{of_data, of_other}
use Rattle.ados_check.proofs.Reading.{first_long}
use Rattle.ados_check.proofs.sketch.kept_of.Goals as goal

pub returns-then-read_long-eq-DATA_TYPE : goal.returns-then-read_long-eq-DATA_TYPE
returns-then-read_long-eq-DATA_TYPE c = sym (of_data c.args.block.now 0 (sym (first_long c.args.block.now 0) ∙ sym c.read_long.ensures ∙ c.if-read_long-eq-DATA_TYPE.true))

pub returns-else-read_long-eq-DATA_TYPE : goal.returns-else-read_long-eq-DATA_TYPE
returns-else-read_long-eq-DATA_TYPE c = sym (of_other c.args.block.now 0 (λ z. c.if-read_long-eq-DATA_TYPE.false (c.read_long.ensures ∙ first_long c.args.block.now 0 ∙ z)))
