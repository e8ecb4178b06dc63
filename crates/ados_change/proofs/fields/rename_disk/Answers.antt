use Rattle.ados_change.proofs.Common.{ℕ, ◌+◌, length, refl, subst, SameBut, root, root_of, root_is, Restamped}
use Rattle.ados_change.specs.FieldTold.{named}
use Rattle.ados_change.proofs.Summing.{restamped}
use Rattle.ados_change.proofs.Cases.{name_case, changed_node, keeps_restamped}
use Rattle.ados_change.proofs.fields.rename_disk.Goals as goal

pub stamp_disk-requires : goal.stamp_disk-requires
stamp_disk-requires c = (named c.args.name.now c.requires.0, c.put_disk_name.ensures.stands c.requires.0 c.requires.1)

pub returns-clause-stands : goal.returns-clause-stands
returns-clause-stands c = λ t s. c.stamp_disk.ensures.stands (named c.args.name.now t) (c.put_disk_name.ensures.stands t s)

pub returns-clause-keeps : goal.returns-clause-keeps
returns-clause-keeps c =
    let t = c.requires.0 in
    let s = c.requires.1 in
    let m = s.proper.root_node in
    let valid = (c.put_disk_name.ensures.stands t s).proper.name (root t) _ (changed_node t (root t) m.0 m.1 (λ a. record a { name = c.args.name.now })) in
    let rest = subst (λ (b : ℕ). SameBut (Restamped (root_of c.args.image.now) b 432 (433 + length c.args.name.now)) c.args.image.now c.stamp_disk.new.image) (root_is c.args.image.now t s)
    (restamped (root_of c.args.image.now) 432 (433 + length c.args.name.now) c.args.image.now c.put_disk_name.new.image c.stamp_disk.new.image c.put_disk_name.ensures.rest c.stamp_disk.ensures.rest) in
    keeps_restamped c.args.image.now c.stamp_disk.new.image t s (root t) m.0 m.1 432 (433 + length c.args.name.now) (λ a. record a { name = c.args.name.now })
    (name_case t s.proper (root t) m.0 m.1 c.args.name.now valid refl) c.args.moment (returns-clause-stands c t s)
    (root_of c.args.image.now) (root_is c.args.image.now t s) rest c.stamp_disk.ensures.image
