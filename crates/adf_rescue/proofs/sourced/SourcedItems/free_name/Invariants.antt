use Rattle.std.proofs.Common.{◌≤◌, length}
use Rattle.adf_rescue.proofs.sourced.SourcedItems.free_name.Given as goal

-- each ending makes the name longer
abbrev pub invariant-loop-ending : goal.invariant-loop-ending
invariant-loop-ending l = l._ending ≤ length l.name
