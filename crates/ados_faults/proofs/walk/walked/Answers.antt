use Rattle.ados_faults.proofs.Common.{◌≡◌, ◌<◌, length, Some, refl, arith, slice_get, slice_get_read}
use Rattle.ados_faults.proofs.Closing.{all_covered, closed, outside_noted, twice_noted, visited_more}
use Rattle.ados_faults.proofs.walk.walked.Goals as goal

pub loop-i-init : goal.loop-i-init
loop-i-init c = record { walked = c.in_ok-walk.ensures; visited = record { visited = λ k step l e. absurd (omega (arith, l)) } }

pub loop-i-preserved : goal.loop-i-preserved
loop-i-preserved c =
    let walk = c.loop-i.walk in
    let done = c.in_ok-go_through.ensures in
    let within : c.loop-i.i < length walk.steps.items = omega arith in
    let at : slice_get walk.steps.items c.loop-i.i ≡ Some c.index-step.result.now =
    slice_get_read walk.steps.items (length walk.steps.items) c.loop-i.i c.index-step.result.now refl within c.index-step.ensures in
    record {
      walked = done.walked;
      visited = visited_more c.args.image.now walk c.go_through.new.self c.loop-i.i c.index-step.result.now at c.loop-i.invariant.visited done.kept done.visited;
    }

pub returns-clause-closed : goal.returns-clause-closed
returns-clause-closed c = closed c.args.image.now c.loop-i.walk c.loop-i.i c.loop-i.invariant.walked c.loop-i.invariant.visited (omega arith)

pub returns-clause-covered : goal.returns-clause-covered
returns-clause-covered c = all_covered c.args.image.now c.loop-i.walk c.loop-i.i c.loop-i.invariant.walked c.loop-i.invariant.visited (omega arith)

pub returns-clause-twice : goal.returns-clause-twice
returns-clause-twice c = twice_noted c.args.image.now c.loop-i.walk c.loop-i.i c.loop-i.invariant.walked c.loop-i.invariant.visited (omega arith)

pub returns-clause-outside : goal.returns-clause-outside
returns-clause-outside c = outside_noted c.args.image.now c.loop-i.walk c.loop-i.i c.loop-i.invariant.walked c.loop-i.invariant.visited (omega arith)
