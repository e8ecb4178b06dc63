use Rattle.std.proofs.Common.{◌≡◌, ℕ, ◌<◌, length, Some, refl, subst, arith}
use Rattle.ados_census.specs.steps.Marks.{IsMarked}
use Rattle.ados_census.specs.steps.Reaching.{cell}
use Rattle.ados_model.specs.Faults.{root_of}
use Rattle.ados_model.specs.declared.role.Role.TheVariants.{Root}
use Rattle.std.proofs.lemmas.Option.{slice_get_read}
use Rattle.std.specs.List.{slice_get}
use Rattle.ados_census.proofs.Reaching.{all_cells, root_step, visited_more}
use Rattle.ados_census.proofs.reached.reached_blocks.Goals as goal

pub take-requires-clause-step : goal.take-requires-clause-step
take-requires-clause-step c = root_step c.args.image.now c.root.result c.in_ok-walk.ensures.whole c.root.ensures

pub loop-done-init : goal.loop-done-init
loop-done-init c = record {
  walked = c.in_ok-take.ensures.walked;
  root = subst (λ (b : ℕ). IsMarked c.take.new.self.cells.items (cell b Root)) c.root.ensures c.in_ok-take.ensures.taken;
  visited = λ k step l e. absurd (omega (arith, l));
}

pub loop-done-preserved : goal.loop-done-preserved
loop-done-preserved c =
    let walk = c.loop-done.walk in
    let done = c.in_ok-go_through.ensures in
    let within : c.loop-done.done < length walk.steps.items = omega (arith, c.loop-done-test.true, c.len.ensures) in
    let at : slice_get walk.steps.items c.loop-done.done ≡ Some c.index-step.result.now =
    slice_get_read walk.steps.items (length walk.steps.items) c.loop-done.done c.index-step.result.now refl within c.index-step.ensures in
    record {
      walked = done.walked;
      root = done.kept.marks_stay (cell (root_of c.args.image.now) Root) c.loop-done.invariant.root;
      visited = visited_more c.args.image.now walk c.go_through.new.self c.loop-done.done c.index-step.result.now at c.loop-done.invariant.visited done.kept done.passed;
    }

pub loop-done-smaller : goal.loop-done-smaller
loop-done-smaller c = omega (arith, c.loop-done-test.true, c.len.ensures, c.in_ok-go_through.ensures.kept.room)

pub invariant_of-result : goal.invariant_of-result
invariant_of-result c =
    all_cells c.args.image.now c.loop-done.walk.cells.items c.loop-done.walk.steps.items c.loop-done.done c.loop-done.invariant.walked c.loop-done.invariant.visited
    (omega (arith, c.loop-done-test.false, c.len.ensures)) c.loop-done.invariant.root
