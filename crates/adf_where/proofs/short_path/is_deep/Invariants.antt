use Rattle.adf_where.proofs.Common.{Stands, Tree}
use Rattle.ados_model.specs.Keys.{HasKey}
use Rattle.adf_where.proofs.Deep.{Climbs}
use Rattle.adf_where.proofs.short_path.is_deep.Given as goal

-- so many directories up
abbrev pub invariant-loop-level : goal.invariant-loop-level
invariant-loop-level l = record {
  key : HasKey l.volume.image l.above;
  climbs : (t : Tree) → Stands l.volume.image t → Climbs t l._level l.key l.above;
}
