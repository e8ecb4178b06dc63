-- Lists for C: a list is copied to the start of a caller's array, as far as there is room.
use Rattle.std.specs.Prelude.{List, ◌++◌, length, take, drop}

-- the array after the copy: elements of the list, as many as fit, and then what was there
abbrev pub copied : {A : Type 0} → List A → List A → List A
copied list before = take (length before) list ++ drop (length list) before
