use Rattle.adf_record.proofs.Common.{ap, ◌∙◌, arith, take_all, file_count}
use Rattle.adf_record.proofs.counts.count_files.Goals as goal

pub returns-clause-count : goal.returns-clause-count
returns-clause-count c = λ t s. c.loop-entry.invariant.1 t s ∙ ap (file_count t) (take_all c.loop-entry.entry-index c.args.below.now (omega arith))
