-- The entries of a trail, oldest first.
use Rattle.std.specs.Prelude.{List, [], ◌∷◌, ◌++◌}
use Rattle.ados_port.specs.declared.trail.Past.{Past, Start, Then'}

abbrev pub items : {E : Type 0} → Past E → List E
items Start = []
items (Then' e shape older) = items older ++ e ∷ []
