use Rattle.std.proofs.Common.{◌≡◌, Bool, map}
use Rattle.std.specs.Fn.{FnReturnsAt}
use Rattle.std.specs.FinMap as numbered
use Rattle.ados_handler.proofs.Common.{list_any, IsTestBy}
use Rattle.ados_handler.proofs.table.Table.any.Given as goal

-- a test of the remaining values has the same result as a test of all values
abbrev pub invariant-loop-value : goal.invariant-loop-value
invariant-loop-value g l =
    (goal.iterator-loop-value g).can_next l.value-iterator
    × (goal.iterator-loop-value g).is_finite l.value-iterator
    × ((passes : _ → Bool) → IsTestBy (FnReturnsAt g.F.Fn) l.test passes
    → list_any passes (map (λ e. e.1) l.value-iterator) ≡ list_any passes (numbered.values l.self.held))
