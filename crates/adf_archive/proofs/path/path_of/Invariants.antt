use Rattle.std.proofs.Common.{◌-◌, vec_len}
use Rattle.adf_archive.proofs.Common.{Stands, Tree}
use Rattle.ados_model.specs.Keys.{HasKey}
use Rattle.adf_archive.proofs.Climbing.{EndsPath}
use Rattle.adf_archive.proofs.path.path_of.Given as goal

-- the path so far is the last part of the path
abbrev pub invariant-loop-alloc : goal.invariant-loop-alloc
invariant-loop-alloc l = record {
  key : HasKey l.volume.image l.top;
  ends : (t : Tree) → Stands l.volume.image t → EndsPath t l.key l.top l.path.items;
}

abbrev pub decreases-loop-alloc : goal.decreases-loop-alloc
decreases-loop-alloc l = 256 - vec_len l.path
