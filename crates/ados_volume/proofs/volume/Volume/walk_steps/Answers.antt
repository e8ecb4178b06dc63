use Rattle.ados_volume.proofs.Common.{Ok, Stands, Tree, missing_before, step_from, steps, sym, ◌∙◌, ◌≡◌}
use Rattle.ados_name.specs.StepView.{step_of}
use Rattle.ados_volume.proofs.PathWalks.{comes_on, fails_here}
use Rattle.ados_volume.proofs.Walking.{step_key}
use Rattle.ados_volume.proofs.volume.Volume.walk_steps.Goals as goal

pub loop-step-preserved : goal.loop-step-preserved
loop-step-preserved c =
    let missing = missing_before c.next.new.self c.args.last in
    let stepped : (t : Tree) → Stands c.args.self.now.image t → step_from t c.loop-step.key (step_of c.in-Some.step) missing ≡ Ok c.in-Ok.next =
    λ t s. sym (c.in-Ok.ensures.step t missing (rw c.loop-step.invariant.same s)) in
    record {
      can = tt;
      finite = tt;
      same = c.step_from.ensures.same ∙ c.loop-step.invariant.same;
      key = λ t s. step_key t s.proper c.loop-step.key (step_of c.in-Some.step) missing c.in-Ok.next (stepped t s);
      come = λ t s.
          comes_on t c.args.start (steps c.args.path.now) c.args.last c.loop-step.key (step_of c.in-Some.step) c.next.new.self
          (rw c.in-Some.ensures.steps at (c.loop-step.invariant.come t s)) c.in-Ok.next (stepped t s);
    }

pub returns-in-Err-clause-stops : goal.returns-in-Err-clause-stops
returns-in-Err-clause-stops c = λ t s.
    fails_here t c.args.start (steps c.args.path.now) c.args.last c.loop-step.key (step_of c.in-Some.step) c.next.new.self
    (rw c.in-Some.ensures.steps at (c.loop-step.invariant.come t s)) c.unwrap_or.result
    (rw (c.unwrap_or.ensures, c.missing_before.ensures) (sym (c.in-Err.ensures.step t (missing_before c.next.new.self c.args.last) (rw c.loop-step.invariant.same s))))
