use Rattle.std.proofs.Common.{sym, subst}
use Rattle.adf_import.proofs.Common.{HasDirectory, Shown}
use Rattle.adf_import.proofs.bundle_put.put_entries.Goals as goal

pub loop-place-init : goal.loop-place-init
loop-place-init c = record {
  dir = subst (λ (v : Shown). HasDirectory v.image c.in-Ok.top) (sym c.directory_at.ensures.same) c.in-Ok.ensures.directory;
  progress = c.in_ok-progress.ensures c.directory_at.new.volume.image;
}

pub put_entry-requires : goal.put_entry-requires
put_entry-requires c = c.directory.ensures c.loop-place.volume.image c.loop-place.invariant

pub loop-place-preserved : goal.loop-place-preserved
loop-place-preserved c = record { dir = c.in_ok-put_entry.ensures.keeps.directory c.in-Ok.top c.loop-place.invariant.dir; progress = c.in_ok-put_entry.ensures.progress }
