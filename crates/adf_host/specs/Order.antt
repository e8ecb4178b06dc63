-- The order in which items are written.
use Rattle.std.specs.Prelude.{ℕ, List, length}
use Rattle.std.specs.List.{range_with_len}
use Rattle.std.specs.List.Sorted.{IsPermutation}
use Rattle.adf_host.specs.declared.trees.items.HostItem.{HostItem}

-- the order has the place of each item once
abbrev pub IsEachOnce : List HostItem → List ℕ → Type 0
IsEachOnce items order = IsPermutation (range_with_len 0 (length items)) order
