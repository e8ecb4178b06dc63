use Rattle.ados_change.proofs.Common.{◌+◌, length, root_of, some_in, root_is, commented}
use Rattle.ados_change.proofs.Summing.{restamped}
use Rattle.ados_change.proofs.Cases.{comment_case, changed_node, keeps_restamped}
use Rattle.ados_change.proofs.fields.set_comment.Goals as goal

pub stamp_disk-requires : goal.stamp_disk-requires
stamp_disk-requires c = (commented c.args.key c.args.comment.now c.requires.tree.0, c.put_comment.ensures.stands c.requires.tree.0 c.requires.tree.1)

pub returns-clause-stands : goal.returns-clause-stands
returns-clause-stands c = λ t s. c.stamp_disk.ensures.stands (commented c.args.key c.args.comment.now t) (c.put_comment.ensures.stands t s)

pub returns-clause-keeps : goal.returns-clause-keeps
returns-clause-keeps c =
    let t = c.requires.tree.0 in
    let s = c.requires.tree.1 in
    let entry = c.requires.key t s in
    let n = some_in (t.nodes c.args.key) entry.0 in
    let valid = (c.put_comment.ensures.stands t s).proper.comment c.args.key _ (changed_node t c.args.key n.0 n.1 (λ a. record a { comment = c.args.comment.now })) in
    keeps_restamped c.args.image.now c.stamp_disk.new.image t s c.args.key n.0 n.1 328 (329 + length c.args.comment.now) (λ a. record a { comment = c.args.comment.now })
    (comment_case t s.proper c.args.key n.0 n.1 c.args.comment.now valid entry.1) c.args.moment (returns-clause-stands c t s)
    (root_of c.args.image.now) (root_is c.args.image.now t s)
    (restamped c.args.key 328 (329 + length c.args.comment.now) c.args.image.now c.put_comment.new.image c.stamp_disk.new.image c.put_comment.ensures.rest c.stamp_disk.ensures.rest) c.stamp_disk.ensures.image
