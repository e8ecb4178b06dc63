-- One step of a walk, and its end.
use Rattle.std.specs.Prelude.{ℕ, Option, unwrap_or, Result, Ok, Err}
use Rattle.ados_model.specs.declared.dos_error.WalkFault.{WalkFault}

-- the found key, or the fault, which is `missing` if none is given
abbrev pub or_missing : Result ℕ (Option WalkFault) → WalkFault → Result ℕ WalkFault
or_missing (Ok key) missing = Ok key
or_missing (Err fault) missing = Err (unwrap_or fault missing)

-- the result of a walk, without the object where it stopped
abbrev pub end_of : Result ℕ (ℕ × WalkFault) → Result ℕ WalkFault
end_of (Ok key) = Ok key
end_of (Err stop) = Err stop.1
