use Rattle.ados_change.proofs.Common.{◌∙◌, ap, dated, protected, without_archive}
use Rattle.ados_change.proofs.Renewed.{file_inside}
use Rattle.ados_change.proofs.Stamping.{entry_key, first_key, is_stamped}
use Rattle.ados_change.proofs.stamp.stamp.Goals as goal

pub long-requires-clause-block : goal.long-requires-clause-block
long-requires-clause-block c = file_inside c.args.image.now c.args.file c.requires.tree c.requires.file

pub put_protection-requires-clause-key : goal.put_protection-requires-clause-key
put_protection-requires-clause-key c = entry_key c.args.image.now c.args.file c.requires.file

pub touch-requires-clause-tree : goal.touch-requires-clause-tree
touch-requires-clause-tree c = (protected c.args.file c.without_archive.result.0 c.requires.tree.0, c.put_protection.ensures.stands c.requires.tree.0 c.requires.tree.1)

pub touch-requires-clause-key : goal.touch-requires-clause-key
touch-requires-clause-key c =
    let first = c.put_protection.ensures in
    first_key c.args.moment c.without_archive.result.0 c.args.file c.args.image.now c.put_protection.new.image c.requires.tree c.requires.file first.stands first.rest

pub stamp_disk-requires : goal.stamp_disk-requires
stamp_disk-requires c =
    let first = protected c.args.file c.without_archive.result.0 c.requires.tree.0 in
    (dated c.args.file c.args.moment first, c.touch.ensures.stands first (c.put_protection.ensures.stands c.requires.tree.0 c.requires.tree.1))

pub returns : goal.returns
returns c =
    let first = c.put_protection.ensures in
    let second = c.touch.ensures in
    let third = c.stamp_disk.ensures in
    is_stamped c.args.moment c.without_archive.result.0 c.args.file c.args.image.now c.put_protection.new.image c.requires.tree c.requires.file first.stands first.rest
    c.touch.new.image second.stands second.rest c.stamp_disk.new.image third.stands third.rest (c.without_archive.ensures ∙ ap without_archive c.long.ensures)
