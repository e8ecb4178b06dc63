use Rattle.std.proofs.Common.{◌≡◌}
use Rattle.std.specs.Prelude.{filter}
use Rattle.std.specs.List.{range_with_len}
use Rattle.adf_c.specs.Changed.{differs}
use Rattle.adf_c.proofs.changed.changed_blocks.Given as goal

abbrev pub invariant-loop-block : goal.invariant-loop-block
invariant-loop-block l = l.numbers.items ≡ filter (differs l.copy l.image) (range_with_len 0 l.block)
