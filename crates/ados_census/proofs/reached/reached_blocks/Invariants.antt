use Rattle.std.proofs.Common.{◌+◌, ◌-◌, length}
use Rattle.ados_census.specs.steps.Marks.{IsMarked}
unfoldable use Rattle.ados_census.specs.steps.Marks.{unmarked}
use Rattle.ados_census.specs.steps.Reaching.{cell, AreVisited, AreWalked}
use Rattle.ados_model.specs.Faults.{root_of}
use Rattle.ados_model.specs.declared.role.Role.TheVariants.{Root}
use Rattle.ados_census.proofs.reached.reached_blocks.Given as goal

abbrev pub invariant-loop-done : goal.invariant-loop-done
invariant-loop-done l = record {
  walked : AreWalked l.image l.walk.cells.items l.walk.steps.items;
  root : IsMarked l.walk.cells.items (cell (root_of l.image) Root);
  visited : AreVisited l.image l.walk.cells.items l.walk.steps.items l.done;
}

abbrev pub decreases-loop-done : goal.decreases-loop-done
decreases-loop-done l = length l.walk.steps.items + unmarked l.walk.cells.items - l.done
