use Rattle.ados_change.proofs.Writable.{lawful_pages}
use Rattle.ados_change.proofs.Created.{created, created_below, created_keeps, insertable, near_there, room}
use Rattle.ados_change.proofs.Keeping.{same_keeps}
use Rattle.ados_change.proofs.Common.{KeepsRest, subst, sym}
use Rattle.ados_change.proofs.entry_made.create.Goals as goal

pub take_first_from-requires-clause-pages : goal.take_first_from-requires-clause-pages
take_first_from-requires-clause-pages c = lawful_pages c.args.image.now c.requires.tree.0 c.requires.tree.1

pub insert_last_near-requires-clause-can : goal.insert_last_near-requires-clause-can
insert_last_near-requires-clause-can c =
    insertable c.args.image.now c.take_first_from.new.image c.make_entry.new.image c.requires.tree.0 c.requires.tree.1 c.args.moment c.args.dir c.in-Some.key c.args.name.now c.args.kind (c.requires.can c.requires.tree.0 c.requires.tree.1)
    c.in-Some.ensures.none.0 c.in-Some.ensures.none.1 c.make_entry.ensures.rest c.make_entry.ensures.entry

pub touch-requires : goal.touch-requires
touch-requires c =
    room c.args.image.now c.take_first_from.new.image c.make_entry.new.image c.requires.tree.0 c.requires.tree.1 c.args.moment c.args.dir c.in-Some.key c.args.name.now c.args.kind (c.requires.can c.requires.tree.0 c.requires.tree.1)
    c.in-Some.ensures.none.0 c.in-Some.ensures.none.1 c.make_entry.ensures.rest c.make_entry.ensures.entry c.insert_last_near.new.image c.insert_last_near.ensures.inserts

pub returns-clause-stands : goal.returns-clause-stands
returns-clause-stands c = λ t s.
    created c.args.image.now c.take_first_from.new.image c.make_entry.new.image t s c.args.moment c.args.dir c.in-Some.key c.args.name.now c.args.kind (c.requires.can t s)
    c.in-Some.ensures.none.0 c.in-Some.ensures.none.1 c.make_entry.ensures.rest c.make_entry.ensures.entry c.insert_last_near.new.image c.insert_last_near.ensures.inserts c.touch.new.image c.stamp.new.image c.touch.ensures.dated c.stamp.ensures.dated

pub returns-clause-keeps : goal.returns-clause-keeps
returns-clause-keeps c =
    created_keeps c.args.image.now c.take_first_from.new.image c.make_entry.new.image c.requires.tree.0 c.requires.tree.1 c.args.moment c.args.dir c.in-Some.key c.args.name.now c.args.kind (c.requires.can c.requires.tree.0 c.requires.tree.1)
    c.in-Some.ensures.none.0 c.in-Some.ensures.none.1 c.make_entry.ensures.rest c.make_entry.ensures.entry c.insert_last_near.new.image c.insert_last_near.ensures.inserts c.touch.new.image c.stamp.new.image c.touch.ensures.dated c.stamp.ensures.dated c.stamp.ensures.image

pub returns-clause-below : goal.returns-clause-below
returns-clause-below c =
    created_below c.args.image.now c.take_first_from.new.image c.make_entry.new.image c.requires.tree.0 c.requires.tree.1 c.args.moment c.args.dir c.in-Some.key c.args.name.now c.args.kind (c.requires.can c.requires.tree.0 c.requires.tree.1)
    c.in-Some.ensures.none.0 c.in-Some.ensures.none.1 c.make_entry.ensures.rest c.make_entry.ensures.entry c.insert_last_near.new.image c.insert_last_near.ensures.inserts c.touch.new.image c.stamp.new.image c.touch.ensures.dated c.stamp.ensures.dated

pub returns-in_default-clause-keeps : goal.returns-in_default-clause-keeps
returns-in_default-clause-keeps c = subst (KeepsRest c.args.image.now) (sym c.in_default.ensures.none.1) (same_keeps c.args.image.now)

pub insert_last_near-requires-clause-near : goal.insert_last_near-requires-clause-near
insert_last_near-requires-clause-near c =
    near_there c.args.image.now c.take_first_from.new.image c.make_entry.new.image c.requires.tree.0 c.requires.tree.1 c.args.moment c.args.dir c.in-Some.key c.args.name.now c.args.kind (c.requires.can c.requires.tree.0 c.requires.tree.1)
    c.in-Some.ensures.none.0 c.in-Some.ensures.none.1 c.make_entry.ensures.rest c.make_entry.ensures.entry c.args.starts.near (c.requires.near c.requires.tree.0 c.requires.tree.1)
