use Rattle.ados_faults.proofs.Common.{◌≡◌, ◌+◌, ◌-◌, option_map, block_count, extensions_to}
use Rattle.ados_faults.proofs.data_places.extensions_to.Given as goal

abbrev pub invariant-loop-passed : goal.invariant-loop-passed
invariant-loop-passed l =
    extensions_to l.marks (block_count l.image) l.block ≡ option_map (λ k. k + l.passed) (extensions_to l.marks (block_count l.image - l.passed) l.here)
