use Rattle.adf_export.proofs.Common.{subst, FileInfo, some_in, Stands, Tree, Note, AreBytesOf, noted, IfOk-weaker}
use Rattle.adf_text.specs.Uaem.{IsLineOf}
use Rattle.adf_export.proofs.bytes.note_bytes.Goals as goal

pub returns : goal.returns
returns c =
    IfOk-weaker c.line_of.result
    (λ line. IsLineOf (noted c.examine-told.result) line.items)
    (λ line. (t : Tree) → Stands c.args.volume.now.image t → AreBytesOf t (Note c.args.key) line.items)
    (λ line is t s.
    let n = some_in (t.nodes c.args.key) (c.requires t s) in
    (n.0, n.1, subst (λ (info : FileInfo). IsLineOf (noted info) line.items) (c.examine-told.ensures t n.0 s n.1) is))
    c.line_of.ensures
