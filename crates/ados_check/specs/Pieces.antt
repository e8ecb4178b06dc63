-- The bytes of some pieces, in their order.
use Rattle.std.specs.Prelude.{ℕ, List, [], ◌++◌}
use Rattle.ados_check.specs.declared.sketch.Pieces.{Pieces, Start, Then'}

abbrev pub all_bytes : Pieces → List ℕ
all_bytes Start = []
all_bytes (Then' piece shape older) = all_bytes older ++ piece.value.items
