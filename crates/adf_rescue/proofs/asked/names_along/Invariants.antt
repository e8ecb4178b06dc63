use Rattle.std.proofs.Common.{◌≡◌, [], map}
use Rattle.ados_name.specs.Name.{steps}
use Rattle.adf_rescue.specs.Undelete.{names_along}
use Rattle.adf_rescue.proofs.asked.names_along.Given as goal

-- the names so far, and the steps that are left, lead along the names of the path
abbrev pub invariant-loop-step : goal.invariant-loop-step
invariant-loop-step l = record {
  can : (goal.iterator-loop-step).can_next l.steps;
  finite : (goal.iterator-loop-step).is_finite l.steps;
  along : names_along (map (λ name. name.items) l.names.items) l.steps ≡ names_along [] (steps l.path);
}
