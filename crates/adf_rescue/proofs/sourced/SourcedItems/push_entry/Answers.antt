use Rattle.adf_rescue.proofs.Sourcing.{note_still_free}
use Rattle.adf_rescue.proofs.sourced.SourcedItems.push_entry.Goals as goal

pub push-requires-then-has_note-clause-free : goal.push-requires-then-has_note-clause-free
push-requires-then-has_note-clause-free c =
    note_still_free c.args.self.now c.push.new.self c.args.above c.in_ok-name-2.name c.in_ok-note.note c.in_ok-note.ensures (c.in_ok-name-2.ensures.note c.if-has_note.true) c.in_ok-item.ensures.taken
