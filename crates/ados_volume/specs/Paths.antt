-- Where a path from the root leads, and where its walk stops.
use Rattle.std.specs.Prelude.{◌≡◌, ◌++◌, ◌∷◌, List, ℕ, Result, Ok, Err}
use Rattle.ados_name.specs.Name.{Step, steps}
use Rattle.ados_model.specs.Tree.{Tree, root}
use Rattle.ados_model.specs.Change.{missing_before, step_from, walk_steps}
use Rattle.ados_model.specs.declared.dos_error.WalkFault.{WalkFault}
use Rattle.ados_model.specs.Objects.{walk_error}
use Rattle.ados_volume.specs.declared.paths.Stopped.{Stopped}

-- the first of these steps lead from the start to this object; the next step fails there, and so does the whole walk,
-- with this fault
pub record FailsAt (t : Tree) (start : ℕ) (all : List Step) (last : WalkFault) (at : ℕ) (fault : WalkFault) : Type 0 where
  pub done : List Step
  pub step : Step
  pub rest : List Step
  pub spelled : all ≡ done ++ step ∷ rest
  pub reached : walk_steps t start done last ≡ Ok at
  pub fails : step_from t at step (missing_before rest last) ≡ Err fault
  pub walked : walk_steps t start all last ≡ Err fault

-- the walk of the path from the root stops at this object, with this error
pub record StopsAt (t : Tree) (path : List ℕ) (last : WalkFault) (stopped : Stopped) : Type 0 where
  pub fault : WalkFault
  pub fails : FailsAt t (root t) (steps path) last stopped.at fault
  pub error : stopped.error ≡ walk_error fault

-- where the path leads, or where it stops; a missing child at the last step is the fault `last`
abbrev pub Leads : Tree → List ℕ → WalkFault → Result ℕ Stopped → Type 0
Leads t path last (Ok key) = walk_steps t (root t) (steps path) last ≡ Ok key
Leads t path last (Err stopped) = StopsAt t path last stopped
