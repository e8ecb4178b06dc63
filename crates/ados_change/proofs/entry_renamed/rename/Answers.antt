use Rattle.ados_change.proofs.Leaving.{from_inside, key_inside, unlinkable}
use Rattle.ados_change.proofs.Renamed.{dir_inside, insertable, key_still, moved_behind, moved_gives_none, moved_keeps, moved_none, moved_stands}
use Rattle.ados_change.proofs.entry_renamed.rename.Goals as goal

pub long-from-requires-clause-block : goal.long-from-requires-clause-block
long-from-requires-clause-block c = let can = c.requires.can c.requires.tree.0 c.requires.tree.1 in key_inside c.args.image.now c.requires.tree.0 c.requires.tree.1 c.args.moment c.args.key can.from can.listed

pub unlink-requires : goal.unlink-requires
unlink-requires c = let can = c.requires.can c.requires.tree.0 c.requires.tree.1 in unlinkable c.args.image.now c.requires.tree.0 c.requires.tree.1 c.args.moment c.args.key can.from can.listed c.long-from.result c.long-from.ensures

pub touch-requires : goal.touch-requires
touch-requires c = let can = c.requires.can c.requires.tree.0 c.requires.tree.1 in from_inside c.args.image.now c.requires.tree.0 c.requires.tree.1 c.args.moment c.args.key can.from can.listed c.long-from.result c.long-from.ensures c.unlink.new.image c.unlink.ensures.unlinks

pub put_title-requires : goal.put_title-requires
put_title-requires c = key_still c.args.image.now c.requires.tree.0 c.requires.tree.1 c.args.moment c.args.key c.args.dir c.args.name.now (c.requires.can c.requires.tree.0 c.requires.tree.1) c.long-from.result c.long-from.ensures c.unlink.new.image c.unlink.ensures.unlinks c.touch.new.image c.touch.ensures.dated

pub insert_last-requires : goal.insert_last-requires
insert_last-requires c = insertable c.args.image.now c.requires.tree.0 c.requires.tree.1 c.args.moment c.args.key c.args.dir c.args.name.now (c.requires.can c.requires.tree.0 c.requires.tree.1) c.long-from.result c.long-from.ensures c.unlink.new.image c.unlink.ensures.unlinks c.touch.new.image c.touch.ensures.dated c.put_title.new.image c.put_title.ensures.titled

pub touch-requires-2 : goal.touch-requires-2
touch-requires-2 c = dir_inside c.args.image.now c.requires.tree.0 c.requires.tree.1 c.args.moment c.args.key c.args.dir c.args.name.now (c.requires.can c.requires.tree.0 c.requires.tree.1) c.long-from.result c.long-from.ensures c.unlink.new.image c.unlink.ensures.unlinks c.touch.new.image c.touch.ensures.dated c.put_title.new.image c.put_title.ensures.titled c.insert_last.new.image c.insert_last.ensures.inserts

pub returns : goal.returns
returns c = record {
  stands = λ t s.
      moved_stands c.args.image.now t s c.args.moment c.args.key c.args.dir c.args.name.now (c.requires.can t s) c.long-from.result c.long-from.ensures c.unlink.new.image c.unlink.ensures.unlinks c.touch.new.image c.touch.ensures.dated c.put_title.new.image c.put_title.ensures.titled
      c.insert_last.new.image c.insert_last.ensures.inserts c.touch-2.new.image c.stamp.new.image c.touch-2.ensures.dated c.stamp.ensures.dated;
  keeps =
      moved_keeps c.args.image.now c.requires.tree.0 c.requires.tree.1 c.args.moment c.args.key c.args.dir c.args.name.now (c.requires.can c.requires.tree.0 c.requires.tree.1) c.long-from.result c.long-from.ensures c.unlink.new.image c.unlink.ensures.unlinks c.touch.new.image c.touch.ensures.dated c.put_title.new.image c.put_title.ensures.titled
      c.insert_last.new.image c.insert_last.ensures.inserts c.touch-2.new.image c.stamp.new.image c.touch-2.ensures.dated c.stamp.ensures.dated c.stamp.ensures.image;
  none =
      moved_none c.args.image.now c.requires.tree.0 c.requires.tree.1 c.args.moment c.args.key c.args.dir c.args.name.now (c.requires.can c.requires.tree.0 c.requires.tree.1) c.long-from.result c.long-from.ensures c.unlink.new.image c.unlink.ensures.unlinks c.touch.new.image c.touch.ensures.dated c.put_title.new.image c.put_title.ensures.titled
      c.insert_last.new.image c.insert_last.ensures.inserts c.touch-2.new.image c.stamp.new.image c.touch-2.ensures.dated c.stamp.ensures.dated;
  gives_none =
      moved_gives_none c.args.image.now c.requires.tree.0 c.requires.tree.1 c.args.moment c.args.key c.args.dir c.args.name.now (c.requires.can c.requires.tree.0 c.requires.tree.1) c.long-from.result c.long-from.ensures c.unlink.new.image c.unlink.ensures.unlinks c.touch.new.image c.touch.ensures.dated c.put_title.new.image c.put_title.ensures.titled
      c.insert_last.new.image c.insert_last.ensures.inserts c.touch-2.new.image c.stamp.new.image c.touch-2.ensures.dated c.stamp.ensures.dated;
  behind =
      moved_behind c.args.image.now c.requires.tree.0 c.requires.tree.1 c.args.moment c.args.key c.args.dir c.args.name.now (c.requires.can c.requires.tree.0 c.requires.tree.1) c.long-from.result c.long-from.ensures c.unlink.new.image c.unlink.ensures.unlinks c.touch.new.image c.touch.ensures.dated c.put_title.new.image c.put_title.ensures.titled
      c.insert_last.new.image c.insert_last.ensures.inserts c.touch-2.new.image c.stamp.new.image c.touch-2.ensures.dated c.stamp.ensures.dated;
}
