use Rattle.ados_faults.proofs.Common.{sym}
use Rattle.ados_faults.proofs.Insides.{reached_inside}
use Rattle.ados_faults.proofs.Sameness.{duplicate}
use Rattle.ados_faults.proofs.names.note_both.Goals as goal

pub note-requires-clause-shown : goal.note-requires-clause-shown
note-requires-clause-shown c =
    duplicate c.args.image.now c.args.dir c.args.block c.args.other c.requires.image c.requires.entry c.requires.other c.requires.short c.requires.other_short c.requires.same c.if-block-other.false

pub note-requires-clause-inside : goal.note-requires-clause-inside
note-requires-clause-inside c = (reached_inside c.args.image.now c.requires.image c.requires.entry.1).1

pub note-requires-2-clause-inside : goal.note-requires-2-clause-inside
note-requires-2-clause-inside c = (reached_inside c.args.image.now c.requires.image c.requires.other.1).1

pub note-requires-2-clause-shown : goal.note-requires-2-clause-shown
note-requires-2-clause-shown c =
    duplicate c.args.image.now c.args.dir c.args.other c.args.block c.requires.image c.requires.other c.requires.entry c.requires.other_short c.requires.short (sym c.requires.same) (λ z. c.if-block-other.false (sym z))
