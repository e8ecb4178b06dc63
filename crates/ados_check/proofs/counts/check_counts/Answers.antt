use Rattle.ados_check.proofs.Common.{refl, sym, ◌∙◌, wrong_size}
use Rattle.ados_check.proofs.Pointed.{length-blocks_upto, are_data_blocks}
use Rattle.ados_check.proofs.counts.check_counts.Goals as goal

pub returns-then-needs_other_count-clause-fault : goal.returns-then-needs_other_count-clause-fault
returns-then-needs_other_count-clause-fault c =
    wrong_size (are_data_blocks c.args.source.now.bytes c.args.file c.in_ok-count.count c.requires.reached c.in_ok-count.ensures)
    (λ z. c.if-needs_other_count.ensures.0 refl (c.from.ensures ∙ sym (length-blocks_upto c.args.source.now.bytes c.args.file c.in_ok-count.count) ∙ z))
