-- The progress of a walk along a path.
use Rattle.ados_volume.proofs.Common.{Bool, Err, List, None, Ok, Option, Result, Some, Step, Tree, [], and_then, ap, append_assoc, child_of, false, if◌then◌else◌, is_file, missing_before, ok_or, step_from, sym, true, walk_steps, ℕ, ◌++◌, ◌∙◌, ◌∷◌, ◌≡◌}
use Rattle.ados_name.specs.Name.Step.{ToParent, ToChild}
use Rattle.ados_model.specs.declared.dos_error.WalkFault.{WalkFault}
use Rattle.ados_model.specs.declared.dos_error.WalkFault.TheVariants.{WrongType}
use Rattle.ados_volume.specs.Paths.{FailsAt}

-- a step that succeeds does not depend on the fault for a missing child
step_same : (t : Tree) (key : ℕ) (step : Step) (a b : WalkFault) (next : ℕ) → step_from t key step a ≡ Ok next → step_from t key step b ≡ Ok next
step_same t key ToParent a b next e = e
step_same t key (ToChild name) a b next e = go (is_file t key) (child_of t key name) e
  where
    go : (file : Bool) (child : Option ℕ) → (if file then Err WrongType else ok_or child a) ≡ Ok next → (if file then Err WrongType else ok_or child b) ≡ Ok next
    go true child e = absurd (cc e)
    go false None e = absurd (cc e)
    go false (Some k) e = e

-- the walk has come from the start to an object, and these steps are left
pub record HasCome (t : Tree) (start : ℕ) (all : List Step) (last : WalkFault) (key : ℕ) (left : List Step) : Type 0 where
  pub done : List Step
  pub spelled : all ≡ done ++ left
  pub reached : walk_steps t start done last ≡ Ok key
  pub whole : walk_steps t start all last ≡ walk_steps t key left last
  pub along : (more : List Step) → walk_steps t start (done ++ more) last ≡ walk_steps t key more last

module _ (t : Tree) (start : ℕ) (all : List Step) (last : WalkFault) (key : ℕ) (step : Step) (left : List Step) (h : HasCome t start all last key (step ∷ left)) where
  pub comes_on : (next : ℕ) → step_from t key step (missing_before left last) ≡ Ok next → HasCome t start all last next left
  comes_on next e = record {
    done = h.done ++ step ∷ [];
    spelled = h.spelled ∙ sym (append_assoc h.done (step ∷ []) left);
    reached = h.along (step ∷ []) ∙ on [];
    whole = h.whole ∙ on left;
    along = λ more. ap (λ (all : List Step). walk_steps t start all last) (append_assoc h.done (step ∷ []) more) ∙ h.along (step ∷ more) ∙ on more;
  }
    where
      on : (more : List Step) → walk_steps t key (step ∷ more) last ≡ walk_steps t next more last
      on more =
          ap (λ (r : Result ℕ WalkFault). and_then r (λ k. walk_steps t k more last)) (step_same t key step (missing_before left last) (missing_before more last) next e)

  pub fails_here : (fault : WalkFault) → step_from t key step (missing_before left last) ≡ Err fault → FailsAt t start all last key fault
  fails_here fault e = record {
    done = h.done;
    step = step;
    rest = left;
    spelled = h.spelled;
    reached = h.reached;
    fails = e;
    walked = h.whole ∙ ap (λ (r : Result ℕ WalkFault). and_then r (λ k. walk_steps t k left last)) e;
  }
