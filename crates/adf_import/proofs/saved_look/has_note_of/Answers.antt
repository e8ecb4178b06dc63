use Rattle.std.proofs.Common.{rules}
use Rattle.ados_model.proofs.Nodes.{some_in}
use Rattle.adf_import.specs.SavedNames.{comment_for, name_for}
use Rattle.adf_import.specs.steps.Spots.{IsNoteOf}
use Rattle.adf_import.proofs.SavedNoting.{note_there}
use Rattle.adf_import.proofs.saved_look.has_note_of.Goals as goal

pub returns : goal.returns
returns c = λ t s yes.
    let there = some_in (t.nodes c.args.key) (c.requires t s) in
    let same : IsNoteOf c.examine-told.result c.args.entry.now (name_for c.args.entry.now) (comment_for c.args.entry.now.state c.args.entry.now.comment) = search rules in
    note_there t c.args.key c.args.entry.now c.examine-told.result there.0 there.1 (c.examine-told.ensures t there.0 s there.1) same
