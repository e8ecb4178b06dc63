use Rattle.adf_import.proofs.saved_fill.fill.Goals as goal

pub loop-item-init : goal.loop-item-init
loop-item-init c = record { dir = c.root-top.ensures.directory; progress = c.in_ok-progress.ensures c.args.volume.now.image }

pub put_or_leave-requires : goal.put_or_leave-requires
put_or_leave-requires c = c.directory-dir.ensures c.loop-item.volume.image c.loop-item.invariant

pub loop-item-preserved : goal.loop-item-preserved
loop-item-preserved c = record { dir = c.in_ok-is_there.ensures.keeps.directory c.root-top.result c.loop-item.invariant.dir; progress = c.in_ok-is_there.ensures.progress }
