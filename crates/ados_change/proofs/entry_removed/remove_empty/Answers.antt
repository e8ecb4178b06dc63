use Rattle.ados_change.proofs.Leaving.{from_inside, unlinkable}
use Rattle.ados_change.proofs.Removed.{gone, gone_changed, gone_gives, gone_untold, key_still, pages_still}
use Rattle.ados_change.proofs.entry_removed.remove_empty.Goals as goal

pub unlink-requires : goal.unlink-requires
unlink-requires c = let can = c.requires.can c.requires.tree.0 c.requires.tree.1 in unlinkable c.args.image.now c.requires.tree.0 c.requires.tree.1 c.args.moment c.args.key can.dir can.listed c.long-dir.result c.long-dir.ensures

pub touch-requires : goal.touch-requires
touch-requires c = let can = c.requires.can c.requires.tree.0 c.requires.tree.1 in from_inside c.args.image.now c.requires.tree.0 c.requires.tree.1 c.args.moment c.args.key can.dir can.listed c.long-dir.result c.long-dir.ensures c.unlink.new.image c.unlink.ensures.unlinks

pub give_back-requires : goal.give_back-requires
give_back-requires c = record {
  pages = pages_still c.args.image.now c.requires.tree.0 c.requires.tree.1 c.args.moment c.args.key (c.requires.can c.requires.tree.0 c.requires.tree.1) (c.requires.empty c.requires.tree.0 c.requires.tree.1) c.long-dir.result c.long-dir.ensures c.unlink.new.image c.unlink.ensures.unlinks c.touch.new.image c.touch.ensures.dated;
  inside = key_still c.args.image.now c.requires.tree.0 c.requires.tree.1 c.args.moment c.args.key (c.requires.can c.requires.tree.0 c.requires.tree.1) (c.requires.empty c.requires.tree.0 c.requires.tree.1) c.long-dir.result c.long-dir.ensures c.unlink.new.image c.unlink.ensures.unlinks c.touch.new.image c.touch.ensures.dated;
}

pub returns : goal.returns
returns c = record {
  stands = λ t s.
      gone c.args.image.now t s c.args.moment c.args.key (c.requires.can t s) (c.requires.empty t s) c.long-dir.result c.long-dir.ensures c.unlink.new.image c.unlink.ensures.unlinks c.touch.new.image c.touch.ensures.dated
      c.give_back.new.image c.stamp.new.image c.give_back.ensures.freed c.stamp.ensures.dated;
  changed = λ t s.
      gone_changed c.args.image.now t s c.args.moment c.args.key (c.requires.can t s) (c.requires.empty t s) c.long-dir.result c.long-dir.ensures c.unlink.new.image c.unlink.ensures.unlinks c.touch.new.image c.touch.ensures.dated
      c.give_back.new.image c.stamp.new.image c.give_back.ensures.freed c.stamp.ensures.dated;
  gives =
      gone_gives c.args.image.now c.requires.tree.0 c.requires.tree.1 c.args.moment c.args.key (c.requires.can c.requires.tree.0 c.requires.tree.1) (c.requires.empty c.requires.tree.0 c.requires.tree.1) c.long-dir.result c.long-dir.ensures c.unlink.new.image c.unlink.ensures.unlinks c.touch.new.image c.touch.ensures.dated
      c.give_back.new.image c.stamp.new.image c.give_back.ensures.freed c.stamp.ensures.dated;
  untold =
      gone_untold c.args.image.now c.requires.tree.0 c.requires.tree.1 c.args.moment c.args.key (c.requires.can c.requires.tree.0 c.requires.tree.1) (c.requires.empty c.requires.tree.0 c.requires.tree.1) c.long-dir.result c.long-dir.ensures c.unlink.new.image c.unlink.ensures.unlinks c.touch.new.image c.touch.ensures.dated
      c.give_back.new.image c.stamp.new.image c.give_back.ensures.freed c.stamp.ensures.dated;
}
