use Rattle.ados_check.proofs.Common.{◌∙◌}
use Rattle.ados_check.proofs.SoundFile.{sound_file, not_ofs}
use Rattle.ados_check.proofs.file.check_file.Goals as goal

pub returns-in_ok-check_chain : goal.returns-in_ok-check_chain
returns-in_ok-check_chain c =
    sound_file c.args.source.now.bytes c.args.file c.in_ok-count.count c.requires.reached c.in_ok-count.ensures.counts c.in_ok-count.ensures.size (λ ofs. c.in_ok-check_chain.ensures)

pub returns-else-kind_byte-eq0 : goal.returns-else-kind_byte-eq0
returns-else-kind_byte-eq0 c =
    sound_file c.args.source.now.bytes c.args.file c.in_ok-count.count c.requires.reached c.in_ok-count.ensures.counts c.in_ok-count.ensures.size (λ ofs. absurd (not_ofs c.args.source.now.bytes (λ z. c.if-kind_byte-eq0.false (c.kind_byte.ensures ∙ z)) ofs))
