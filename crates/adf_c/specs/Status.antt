-- The status numbers for C.
use Rattle.std.specs.Prelude.{ℕ, ℤ, pos, Result, Ok, Err}
use Rattle.adf_c.specs.declared.values.refusal.Refusal.{Refusal}
use Rattle.adf_c.specs.declared.values.refusal.Refusal.TheVariants.{NotAnImage, NoMemory, WrongArgument}

-- the number of a refusal
abbrev pub refusal_number : Refusal → ℕ
refusal_number NotAnImage = 1
refusal_number NoMemory = 2
refusal_number WrongArgument = 3

-- the status of a call: 0 for success, else the number of its refusal
abbrev pub status_of : Result (Unit {0}) Refusal → ℤ
status_of (Ok x) = pos 0
status_of (Err refusal) = pos (refusal_number refusal)
