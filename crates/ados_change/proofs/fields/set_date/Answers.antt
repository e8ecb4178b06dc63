use Rattle.ados_change.proofs.Common.{root_of, some_in, root_is, dated}
use Rattle.ados_change.proofs.Summing.{restamped}
use Rattle.ados_change.proofs.Cases.{date_case, keeps_restamped}
use Rattle.ados_change.proofs.fields.set_date.Goals as goal

pub stamp_disk-requires : goal.stamp_disk-requires
stamp_disk-requires c = (dated c.args.key c.args.date c.requires.tree.0, c.touch.ensures.stands c.requires.tree.0 c.requires.tree.1)

pub returns-clause-stands : goal.returns-clause-stands
returns-clause-stands c = λ t s. c.stamp_disk.ensures.stands (dated c.args.key c.args.date t) (c.touch.ensures.stands t s)

pub returns-clause-keeps : goal.returns-clause-keeps
returns-clause-keeps c =
    let t = c.requires.tree.0 in
    let s = c.requires.tree.1 in
    let entry = c.requires.key t s in
    let n = some_in (t.nodes c.args.key) entry.0 in
    keeps_restamped c.args.image.now c.stamp_disk.new.image t s c.args.key n.0 n.1 420 432 (λ a. record a { date = c.args.date })
    (date_case t s.proper c.args.key n.0 n.1 c.args.date) c.args.moment (returns-clause-stands c t s)
    (root_of c.args.image.now) (root_is c.args.image.now t s)
    (restamped c.args.key 420 432 c.args.image.now c.touch.new.image c.stamp_disk.new.image c.touch.ensures.rest c.stamp_disk.ensures.rest) c.stamp_disk.ensures.image
