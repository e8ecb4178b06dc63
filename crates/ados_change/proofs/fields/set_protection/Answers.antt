use Rattle.ados_change.proofs.Common.{root_of, some_in, root_is, protected}
use Rattle.ados_change.proofs.Summing.{restamped}
use Rattle.ados_change.proofs.Cases.{bits_case, keeps_restamped}
use Rattle.ados_change.proofs.fields.set_protection.Goals as goal

pub stamp_disk-requires : goal.stamp_disk-requires
stamp_disk-requires c = (protected c.args.key c.args.bits.0 c.requires.tree.0, c.put_protection.ensures.stands c.requires.tree.0 c.requires.tree.1)

pub returns-clause-stands : goal.returns-clause-stands
returns-clause-stands c = λ t s. c.stamp_disk.ensures.stands (protected c.args.key c.args.bits.0 t) (c.put_protection.ensures.stands t s)

pub returns-clause-keeps : goal.returns-clause-keeps
returns-clause-keeps c =
    let t = c.requires.tree.0 in
    let s = c.requires.tree.1 in
    let entry = c.requires.key t s in
    let n = some_in (t.nodes c.args.key) entry.0 in
    keeps_restamped c.args.image.now c.stamp_disk.new.image t s c.args.key n.0 n.1 320 324 (λ a. record a { protection = c.args.bits.0 })
    (bits_case t s.proper c.args.key n.0 n.1 c.args.bits.0 entry.1) c.args.moment (returns-clause-stands c t s)
    (root_of c.args.image.now) (root_is c.args.image.now t s)
    (restamped c.args.key 320 324 c.args.image.now c.put_protection.new.image c.stamp_disk.new.image c.put_protection.ensures.rest c.stamp_disk.ensures.rest) c.stamp_disk.ensures.image
