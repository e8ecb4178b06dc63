use Rattle.ados_volume.proofs.Common.{HasKey, Stands, Tree, steps, ◌≡◌}
use Rattle.ados_volume.proofs.PathWalks.{HasCome}
use Rattle.ados_volume.proofs.volume.Volume.walk_steps.Given as goal

abbrev pub invariant-loop-step : goal.invariant-loop-step
invariant-loop-step l = record {
  can : (goal.iterator-loop-step).can_next l.steps;
  finite : (goal.iterator-loop-step).is_finite l.steps;
  same : l.self ≡ l.initial.self;
  key : HasKey l.initial.self.image l.key;
  come : (t : Tree) → Stands l.initial.self.image t → HasCome t l.start (steps l.path) l.last l.key l.steps;
}
