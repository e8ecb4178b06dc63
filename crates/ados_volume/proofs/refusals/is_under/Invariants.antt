use Rattle.ados_volume.proofs.Common.{HasKey, Stands, Tree, is_under, ◌-◌, ◌≡◌}
use Rattle.ados_volume.proofs.Climbing.{meets}
use Rattle.ados_volume.proofs.refusals.is_under.Given as goal

-- from here on the key is met exactly if it is met at all
abbrev pub invariant-loop-step : goal.invariant-loop-step
invariant-loop-step l = record {
  key : HasKey l.volume.image l.key;
  rest : (t : Tree) → Stands l.volume.image t → meets t l.above (t.blocks - l._step) l.key ≡ is_under t l.above l.initial.key;
}
