-- Lists with the number of each element, gone through one by one.
use Rattle.std.specs.List.{enumerate_from}
use Rattle.adf_where.proofs.Common.{ℕ, List, drop, flat_map}

-- what the elements from this place on give
abbrev pub rest_from : {X Y : Type 0} → (ℕ × X → List Y) → List X → ℕ → List Y
rest_from f xs i = flat_map f (enumerate_from i (drop i xs))
