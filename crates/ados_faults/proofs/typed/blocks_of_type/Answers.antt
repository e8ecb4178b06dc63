use Rattle.ados_faults.proofs.Common.{get_or, sym, subst, arith, All, Contains, slice_get-get_or, Root, Step, HasTypeAs, IsOfType, step_of}
use Rattle.ados_faults.proofs.Enumerated.{all_of_type, grown_contains}
use Rattle.ados_faults.proofs.Firsts.{one_more}
use Rattle.ados_faults.proofs.typed.blocks_of_type.Goals as goal

pub loop-step-init : goal.loop-step-init
loop-step-init c = record {
  met = c.in_ok-blocks.ensures.met;
  typed = subst (All (IsOfType c.args.image.now c.args.kind)) (sym c.in_ok-blocks.ensures.none) (λ k d l. absurd (omega (arith, l)));
  steps = record { met = λ k step l e. absurd (omega (arith, l)) };
}

pub loop-step-preserved : goal.loop-step-preserved
loop-step-preserved c =
    let image = c.args.image.now in
    let steps = c.args.steps.now in
    let n = c.loop-step.step-index in
    let old = c.loop-step.blocks.list.items in
    let new = c.add_step.new.blocks.list.items in
    let done = c.in_ok-add_step.ensures in
    let step = get_or steps n (step_of 0 Root) in
    record {
      met = done.met;
      typed = done.typed c.loop-step.invariant.typed;
      steps = record {
        met = one_more steps (λ (s : Step). HasTypeAs image c.args.kind s.block s.role → Contains old s.block) (λ (s : Step). HasTypeAs image c.args.kind s.block s.role → Contains new s.block) n step
            (slice_get-get_or steps n (step_of 0 Root) c.loop-step-test.true) (λ s was t. grown_contains image step.block old new done.grown s.block (was t)) done.there c.loop-step.invariant.steps.met;
      };
    }

pub returns-clause-each : goal.returns-clause-each
returns-clause-each c =
    all_of_type c.args.image.now c.args.kind c.args.steps.now c.loop-step.blocks.list.items c.loop-step.step-index c.loop-step.invariant.steps c.loop-step-test.false c.requires.covered
