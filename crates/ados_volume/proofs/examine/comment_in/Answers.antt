use Rattle.ados_volume.proofs.Common.{Node, ap, arith, length, some_in, sym, ◌∙◌}
use Rattle.ados_volume.proofs.Examining.{entry_of, root_node_is}
use Rattle.ados_model.proofs.NoFaults.{text_is}
use Rattle.ados_volume.proofs.examine.comment_in.Goals as goal

pub returns-then-key-root : goal.returns-then-key-root
returns-then-key-root c = λ t node s e.
    let root = root_node_is c.args.image.now t s c.args.key node e (c.if-key-root.true ∙ c.root.ensures) in
    c.comment_of.ensures ∙ sym (ap (λ (a : Node). a.comment) root ∙ s.proper.root_node.2.no_comment)

pub text_in-requires-clause-room : goal.text_in-requires-clause-room
text_in-requires-clause-room c =
    let t = c.requires.tree.0 in
    let s = c.requires.tree.1 in
    let n = some_in (t.nodes c.args.key) (c.requires.key t s) in
    let entry = entry_of c.args.image.now t s c.args.key n.0 n.1 (λ r. c.if-key-root.false (r ∙ sym c.root.ensures)) in
    omega (arith, entry.2.comment.counted, (s.proper.comment c.args.key n.0 n.1).short)

pub comment_of-requires-else-key-root : goal.comment_of-requires-else-key-root
comment_of-requires-else-key-root c =
    let t = c.requires.tree.0 in
    let s = c.requires.tree.1 in
    let n = some_in (t.nodes c.args.key) (c.requires.key t s) in
    let entry = entry_of c.args.image.now t s c.args.key n.0 n.1 (λ r. c.if-key-root.false (r ∙ sym c.root.ensures)) in
    omega (arith, ap length (c.text_in.ensures ∙ text_is c.args.image.now c.args.key 328 n.0.comment entry.2.comment), (s.proper.comment c.args.key n.0 n.1).short)

pub returns-else-key-root : goal.returns-else-key-root
returns-else-key-root c = λ t node s e.
    let entry = entry_of c.args.image.now t s c.args.key node e (λ r. c.if-key-root.false (r ∙ sym c.root.ensures)) in
    c.comment_of-else-key-root.ensures ∙ c.text_in.ensures ∙ text_is c.args.image.now c.args.key 328 node.comment entry.2.comment
