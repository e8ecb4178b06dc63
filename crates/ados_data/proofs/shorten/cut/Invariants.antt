use Rattle.ados_data.proofs.Common.{◌-◌, ◌/◌, data_blocks, extension_blocks, format_of}
use Rattle.ados_data.proofs.Cutting.{Cutting}
use Rattle.ados_data.proofs.shorten.cut.Given as goal

abbrev pub invariant-loop-i : goal.invariant-loop-i
invariant-loop-i l = Cutting (data_blocks l.fn.image l.file) (extension_blocks l.fn.image l.file) (format_of l.fn.image) l.file l.count l.size l.i ((l.i - 1) / 72) l.cursor.holder l.cursor.next l.fn.image l.image
