use Rattle.ados_check.proofs.Common.{sym, ◌∙◌, false≢true}
use Rattle.ados_check.proofs.NoFaults.{shows_no_fault}
use Rattle.ados_check.proofs.bitmap.has_sound_bitmap.Goals as goal

pub returns-then-not-has_valid_bitmap : goal.returns-then-not-has_valid_bitmap
returns-then-not-has_valid_bitmap c = λ _.
    shows_no_fault c.args.source.now.bytes c.args.marks.now c.blocks-2.ensures.image c.requires.checked
    (λ valid. false≢true (sym c.if-not-has_valid_bitmap.true ∙ c.has_valid_bitmap.ensures.1 valid))
